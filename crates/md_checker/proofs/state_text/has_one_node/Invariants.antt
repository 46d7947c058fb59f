use Rattle.md_checker.proofs.StateTexts.{AreSeen}
use Rattle.md_checker.proofs.state_text.has_one_node.Given as goal

abbrev pub invariant-loop-root : goal.invariant-loop-root
invariant-loop-root l = AreSeen l.roots l.root-index l.found
