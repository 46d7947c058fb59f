use Rattle.std.proofs.Common.{◌≡◌, ℕ, ◌+◌, ◌-◌, ◌*◌, ◌&&◌, nat_lt, if◌then◌else◌}
use Rattle.std.specs.FinSet as set
use Rattle.md_graph6.specs.Bits.{bit}
use Rattle.md_graph6.specs.Window.{AreGroups}
use Rattle.md_graph6.specs.Written.{bit_if}
use Rattle.md_graph6.proofs.writer.put_column.Given as goal

abbrev pub invariant-loop-w : goal.invariant-loop-w
invariant-loop-w g l = record {
  groups : AreGroups l.body;
  bits : (k : ℕ) → bit l.body k
      ≡ (if nat_lt k l.place then bit l.fn.body k
      else bit_if (nat_lt (k - l.place) (64 * l.w) && (nat_lt (k - l.place) l.j && set.contains l.column (l.least + (k - l.place)))));
}
