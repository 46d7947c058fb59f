use Rattle.std.proofs.Common.{refl, sym}
use Rattle.md_graph.proofs.SetLemmas.{clash, Has-along}
use Rattle.md_modules.proofs.Turns.{graph_adjacency, module_test}
use Rattle.md_modules.proofs.module_search.is_module.Goals as goal

pub returns-then-not-is_subset : goal.returns-then-not-is_subset
returns-then-not-is_subset g c = record {
  exactly = (
    λ f. clash f refl,
    λ module_is. clash (c.is_subset.ensures.exactly.1 (λ x h. Has-along _ _ (sym c.vertices-vertices.ensures.set) x (module_is.inside x h))) c.if-not-is_subset.true,
  );
}

pub returns : goal.returns
returns g c = record {
  exactly =
      module_test (graph_adjacency c.vertices-vertices.ensures.graph) c.args.graph.now.vertices c.vertices-vertices.result.now c.args.names.now c.minus.result c.in-Some.v c.are_alike.result
      c.vertices-vertices.ensures.set c.in-Some.ensures.found.member (c.is_subset.ensures.exactly.0 c.if-not-is_subset.false) c.minus.ensures.value c.are_alike.ensures;
}
