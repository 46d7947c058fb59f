use Rattle.std.proofs.Common.{◌≡◌, take}
use Rattle.md_forcing.proofs.forcing_tree.ForcingTree.of_class.Given as goal

abbrev pub invariant-loop-i : goal.invariant-loop-i
invariant-loop-i l = l.trail ≡ take l.i l.class
