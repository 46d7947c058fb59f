use Rattle.md_forcing.proofs.Entries.{NoneBefore}
use Rattle.md_forcing.proofs.forcing_tree.ForcingTree.place_of.Given as goal

abbrev pub invariant-loop-i : goal.invariant-loop-i
invariant-loop-i l = NoneBefore l.self l.by l.i
