use Rattle.std.proofs.Common.{subst}
use Rattle.std.specs.FinSet.{intersection}
use Rattle.md_graph.specs.Sets.{NameSet, Has}
use Rattle.md_graph.proofs.SetLemmas.{Has-along, of_meet}
use Rattle.md_tree_tests.proofs.decompositions.by_closures.vertices_in.Goals as goal

pub returns : goal.returns
returns c x h =
    subst (λ (s : NameSet). Has s x) c.vertices.ensures.set
    (of_meet c.args.set.now c.vertices.result.now x (Has-along c.and.result (intersection c.args.set.now c.vertices.result.now) c.and.ensures.value x h)).1
