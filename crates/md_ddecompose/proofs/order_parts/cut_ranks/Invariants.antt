use Rattle.std.proofs.Common.{◌≡◌, ◌++◌, ◌+◌, ◌*◌, ◌≤◌, length, map}
use Rattle.std.specs.FinSet.{empty}
use Rattle.std.specs.List.{sum_by}
use Rattle.md_digraph.specs.declared.TheConstants.{DIRECTED_NAMES}
use Rattle.md_digraph.specs.PlainDigraph.{has_arc_to}
use Rattle.md_dtree.specs.Balance.{arcs_from, arcs_to}
use Rattle.md_ddecompose.specs.Ranks.{name_of}
use Rattle.md_ddecompose.proofs.CutLemmas.{IsCutUpTo}
use Rattle.md_ddecompose.proofs.order_parts.cut_ranks.Given as goal

abbrev pub invariant-loop-ranked : goal.invariant-loop-ranked
invariant-loop-ranked g l = record {
  cut : IsCutUpTo (has_arc_to l.graph) l.set (map name_of l.yielded) l.part l.parts.items;
  left : l.yielded ++ l.ranked-iterator.rest.items ≡ l.initial.ranked-iterator.rest.items;
  sums : l.lags + sum_by (arcs_from (has_arc_to l.graph) l.set) (map name_of l.yielded)
      ≡ sum_by (arcs_to (has_arc_to l.graph) l.set) (map name_of l.yielded) + l.first * DIRECTED_NAMES;
  counted : l.first ≡ length l.yielded;
  few : l.lags ≤ l.first * (2 * DIRECTED_NAMES);
  ended : l.first ≡ l.count → l.part ≡ empty;
}
