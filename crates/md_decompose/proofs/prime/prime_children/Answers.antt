use Rattle.std.proofs.Common.{rules, arith, sym, ◌∙◌}
use Rattle.std.proofs.lemmas.Result.{IfOk-weaker}
use Rattle.md_graph.proofs.Search.{decide_test}
use Rattle.md_modules.proofs.Modules.{undirected}
use Rattle.md_modules.proofs.Components.{prime_unsplit}
use Rattle.md_modules.proofs.Turns.{graph_adjacency}
use Rattle.md_graph.proofs.SetLemmas.{Has-along}
use Rattle.md_decompose.proofs.ChildLemmas.{children_found}
use Rattle.md_decompose.proofs.ChainLemmas.{chain_of}
use Rattle.md_decompose.proofs.prime.prime_children.Goals as goal

pub in_order-requires : goal.in_order-requires
in_order-requires g c =
    let parts = c.in_ok-classes.ensures.holds.partition in (
      search rules,
      (
        parts.are_apart,
        λ k low. (
          c.in-Some.v,
          Has-along _ _ (sym (c.in_ok-first.ensures.made ∙ c.minus.ensures.value)) c.in-Some.v c.back.ensures.fixed,
          λ y h.
              let in_rest = (c.back.ensures.names y).0 (parts.inside k y h) in
              let least = c.in-Some.ensures.found.first y in_rest.0 (omega arith) in
              let other = in_rest.1 in
              omega arith,
        ),
      ),
    )

pub returns-clause-children : goal.returns-clause-children
returns-clause-children g c =
    IfOk-weaker c.in_order.result _ _
    (λ sets listed. children_found (undirected (graph_adjacency c.vertices-vertices.ensures.graph)) decide_test c.args.set.now c.back.new.into c.in_ok-first.first c.in-Some.v c.in_ok-j.j
    c.in_ok-classes.classes.items sets.items (prime_unsplit c.args.set.now c.requires.prime) c.in_ok-j.ensures.differ c.in_ok-j.ensures.whole
    c.back.ensures.names c.back.ensures.rest c.back.ensures.fixed c.in_ok-classes.ensures (c.in_ok-first.ensures.made ∙ c.minus.ensures.value) listed)
    c.in_order.ensures.listed

pub returns-clause-chain : goal.returns-clause-chain
returns-clause-chain g c =
    IfOk-weaker c.in_order.result _ _ (λ sets listed. chain_of c.args.set.now c.in-Some.v c.far_from.new.chain c.in-Some.ensures.found c.in_ok-j.ensures.steps) c.in_order.ensures.listed
