use Rattle.md_modules.proofs.Turns.{graph_adjacency, whole_test}
use Rattle.md_modules.proofs.component_search.is_whole.Goals as goal

pub returns : goal.returns
returns g c =
    whole_test (graph_adjacency c.vertices-vertices.ensures.graph) c.vertices-vertices.result.now _ c.rest_of_component.new.left c.args.value c.in-Some.x c.is_empty.result
    c.vertices-vertices.ensures.set c.rest_of_component.ensures.part c.rest_of_component.ensures.taken c.is_empty.ensures.exactly
