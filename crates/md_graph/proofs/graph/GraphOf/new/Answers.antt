use Rattle.std.proofs.Common.{arith}
use Rattle.md_graph.proofs.Limits.{words_few}
use Rattle.md_graph.proofs.RowLemmas.{no_rows_yet}
use Rattle.md_graph.proofs.graph.GraphOf.new.Goals as goal

pub invariant_of-result : goal.invariant_of-result
invariant_of-result g c = (
  (no_rows_yet c.none.ensures.value c.in_ok-with_capacity.ensures.items _ c.in_ok-with_capacity.ensures.len).0,
  record {
    made = omega (arith, c.in_ok-with_capacity.ensures.len);
    names = words_few _ c.requires.limit;
    fits = c.in_ok-with_capacity.ensures.capacity;
    empty = c.none-2.ensures.value;
  },
)

pub returns : goal.returns
returns g c = record {
  made = (no_rows_yet c.none.ensures.value c.in_ok-with_capacity.ensures.items _ c.in_ok-with_capacity.ensures.len).1;
}
