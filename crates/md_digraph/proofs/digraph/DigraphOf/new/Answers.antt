use Rattle.std.proofs.Common.{arith}
use Rattle.md_digraph.proofs.ArcRowLemmas.{no_rows_yet}
use Rattle.md_digraph.proofs.digraph.DigraphOf.new.Goals as goal

pub invariant_of-result : goal.invariant_of-result
invariant_of-result g c = (
  (no_rows_yet c.none.ensures.value c.in_ok-with_capacity.ensures.items c.in_ok-with_capacity-2.ensures.items _ c.in_ok-with_capacity.ensures.len).0,
  record {
    made = omega (arith, c.in_ok-with_capacity.ensures.len);
    few = c.requires;
    out_fits = c.in_ok-with_capacity.ensures.capacity;
    into_fits = c.in_ok-with_capacity-2.ensures.capacity;
  },
)

pub returns : goal.returns
returns g c = record {
  made = (no_rows_yet c.none.ensures.value c.in_ok-with_capacity.ensures.items c.in_ok-with_capacity-2.ensures.items _ c.in_ok-with_capacity.ensures.len).1;
}
