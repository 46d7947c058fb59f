use Rattle.std.proofs.Common.{◌≡◌}
use Rattle.md_comparability.specs.Listed.{arcs_below}
use Rattle.md_orient.proofs.orientation.list_of_arcs.Given as goal

abbrev pub invariant-loop-tail : goal.invariant-loop-tail
invariant-loop-tail g l = l.list.items ≡ arcs_below l.arcs l.tail
