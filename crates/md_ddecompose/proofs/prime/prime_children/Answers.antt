use Rattle.std.proofs.Common.{rules, arith, sym, ◌∙◌}
use Rattle.std.proofs.lemmas.Result.{IfOk-weaker}
use Rattle.md_digraph.specs.PlainDigraph.{has_arc_to}
use Rattle.md_digraph.proofs.ArcTurns.{arcs_turn, arcs_told}
use Rattle.md_graph.proofs.SetLemmas.{Has-along}
use Rattle.md_decompose.proofs.ChildLemmas.{children_found}
use Rattle.md_ddecompose.proofs.prime.prime_children.Goals as goal

pub in_order-requires : goal.in_order-requires
in_order-requires g c =
    let parts = c.in_ok-classes.ensures.maximal.holds.partition in (
      search rules,
      (
        parts.are_apart,
        λ k low. (
          c.in-Some.v,
          Has-along _ _ (sym (c.in_ok-first.ensures.made ∙ c.minus.ensures.value)) c.in-Some.v c.directed_back.ensures.fixed,
          λ y h.
              let in_rest = (c.directed_back.ensures.names y).0 (parts.inside k y h) in
              let least = c.in-Some.ensures.found.first y in_rest.0 (omega arith) in
              let other = in_rest.1 in
              omega arith,
        ),
      ),
    )

pub returns : goal.returns
returns g c =
    IfOk-weaker c.in_order.result _ _
    (λ sets listed. children_found (arcs_turn (has_arc_to c.args.graph.now)) arcs_told c.args.set.now c.directed_back.new.into c.in_ok-first.first c.in-Some.v c.far_from-j.result
    c.in_ok-classes.classes.items sets.items c.requires.unsplit c.far_from-j.ensures.differ c.far_from-j.ensures.whole
    c.directed_back.ensures.names c.directed_back.ensures.rest c.directed_back.ensures.fixed c.in_ok-classes.ensures.maximal (c.in_ok-first.ensures.made ∙ c.minus.ensures.value) listed)
    c.in_order.ensures.listed
