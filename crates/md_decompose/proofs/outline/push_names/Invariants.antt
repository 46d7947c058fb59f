use Rattle.md_decompose.specs.Turns.{AreNamesPushed}
use Rattle.md_decompose.proofs.outline.push_names.Given as goal

abbrev pub invariant-loop-place : goal.invariant-loop-place
invariant-loop-place g l = AreNamesPushed l.place l.sets l.initial.parts.items l.parts.items
