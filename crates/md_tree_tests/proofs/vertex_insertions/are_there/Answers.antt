use Rattle.std.proofs.Common.{sym, ◌∙◌, subst}
use Rattle.std.proofs.lemmas.List.{take_all}
use Rattle.std.proofs.lemmas.List.Elements.{All-nil, All-more}
use Rattle.std.specs.List.{All}
use Rattle.md_graph.specs.Sets.{Has}
use Rattle.md_tree_tests.proofs.vertex_insertions.are_there.Goals as goal

pub loop-name-init : goal.loop-name-init
loop-name-init c = All-nil (Has c.args.graph.now.vertices)

pub loop-name-preserved : goal.loop-name-preserved
loop-name-preserved c =
    All-more (Has c.args.graph.now.vertices) c.args.names.now c.loop-name.name-index 0 c.loop-name-test.true c.loop-name.invariant (sym c.has_vertex.ensures.value ∙ c.if-not-has_vertex.false)

pub returns : goal.returns
returns c = λ yes. subst (All (Has c.args.graph.now.vertices)) (take_all c.loop-name.name-index c.args.names.now c.loop-name-test.false) c.loop-name.invariant
