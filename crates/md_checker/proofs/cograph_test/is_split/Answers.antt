use Rattle.std.proofs.Common.{not, inl, inr, ap}
use Rattle.std.proofs.lemmas.Bool.{cases_Bool, not-true}
use Rattle.md_graph.specs.PlainGraph.{adjacent}
use Rattle.md_graph.proofs.SetLemmas.{clash}
use Rattle.md_modules.specs.Components.{IsComponent}
use Rattle.md_modules.proofs.Turns.{graph_adjacency}
use Rattle.md_checker.proofs.Splitting.{component_splits, component_whole, component_told}
use Rattle.md_checker.proofs.cograph_test.is_split.Given.{Over}
use Rattle.md_checker.proofs.cograph_test.is_split.Goals as goal
use Rattle.md_checker.proofs.cograph_test.is_split.Goals.{then-joined, else-joined}

found : (g : Over) (c : goal.After-is_same g) → IsComponent (adjacent c.args.graph.now) c.args.within.now c.args.x c.if-joined.part c.args.joined
found g c = elim c.if-joined.branch [
  | then-joined w ↦ component_told w.if-joined.true w.part-is w.co_component.ensures.component
  | else-joined w ↦ component_told w.if-joined.false w.part-is w.component.ensures.component
]

pub returns-clause-split : goal.returns-clause-split
returns-clause-split g c = λ differs.
    component_splits c.args.within.now c.if-joined.part c.args.joined c.args.x (found g c)
    (λ same. clash (c.is_same.ensures.exactly.1 same) (not-true c.is_same.result differs))

pub returns-clause-none : goal.returns-clause-none
returns-clause-none g c = λ same.
    component_whole (graph_adjacency c.vertices-vertices.ensures.graph) c.args.within.now c.if-joined.part c.args.joined c.args.x (found g c)
    (c.is_same.ensures.exactly.0 (elim (cases_Bool c.is_same.result) [ inl t ↦ t | inr f ↦ absurd (same (ap not f)) ]))
