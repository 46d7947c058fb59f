use Rattle.std.proofs.Common.{rules}
use Rattle.md_graph_tests.proofs.module_searches.sees_components.Goals as goal
use Rattle.md_graph.proofs.SetLemmas.{meet_inside}

pub component-requires : goal.component-requires
component-requires g c = (search rules, (search rules, (meet_inside c.set.result c.vertices.result.now _ c.and-within.result c.vertices.ensures.set c.and-within.ensures.value, search rules)))

pub co_component-requires : goal.co_component-requires
co_component-requires g c = (search rules, (search rules, (meet_inside c.set.result c.vertices.result.now _ c.and-within.result c.vertices.ensures.set c.and-within.ensures.value, search rules)))

pub closure_in-requires : goal.closure_in-requires
closure_in-requires g c = (search rules, (search rules, (meet_inside c.set.result c.vertices.result.now _ c.and-within.result c.vertices.ensures.set c.and-within.ensures.value, (search rules, search rules))))
