use Rattle.std.proofs.Common.{◌∙◌, sym}
use Rattle.md_tree_tests.proofs.cotrees.degree_of.Goals as goal

pub degree-requires-clause-live : goal.degree-requires-clause-live
degree-requires-clause-live c = (c.args.graph.now, c.requires, sym c.has_vertex.ensures.value ∙ c.if-has_vertex.true)
