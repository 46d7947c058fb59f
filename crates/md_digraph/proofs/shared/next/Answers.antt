use Rattle.std.proofs.Common.{inl}
use Rattle.md_graph.proofs.SetLemmas.{empty_if}
use Rattle.md_digraph.proofs.shared.next.Goals as goal

pub returns-then-is_empty-clause-none : goal.returns-then-is_empty-clause-none
returns-then-is_empty-clause-none g c = inl (empty_if c.args.left.now (c.is_empty.ensures.exactly.0 c.if-is_empty.true))
