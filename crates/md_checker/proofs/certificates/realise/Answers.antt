use Rattle.std.proofs.Common.{◌≡◌, ◌↔◌, ℕ, ◌∙◌, sym, subst}
use Rattle.md_graph.specs.Sets.{Has}
use Rattle.md_graph.specs.Rows.{row_of}
use Rattle.md_graph.specs.PlainGraph.{adjacent, neighbours}
use Rattle.md_comparability.specs.Orders.{IsOrder, Realise}
use Rattle.md_checker.proofs.Ordering.{agreed}
use Rattle.md_checker.proofs.Flipping.{written_back, flipped_along, realised_by_rows}
use Rattle.md_checker.proofs.certificates.realise.Goals as goal

pub returns : goal.returns
returns g c =
    let s = c.args.graph.now.vertices in
    let p = c.args.first.now in
    let q = c.args.second.now in
    let none = c.in_ok-rows.rows.items in
    let mid = c.flip_before.new.rows in
    let rows = c.flip_before-2.new.rows in
    let n = c.in_ok-rows.rows.len in
    let mid_is = c.deref_mut-2.ensures.value ∙ written_back n mid _ (c.flip_before.ensures.room ∙ c.deref_mut.ensures.len) in
    let rows_are = c.deref.ensures.value ∙ written_back n rows _ (c.flip_before-2.ensures.room ∙ c.deref_mut-2.ensures.len) in
    agreed c.are_neighbours.ensures
    (subst (λ r. ((v : ℕ) → Has s v → row_of r v ≡ neighbours c.args.graph.now v) ↔ Realise (adjacent c.args.graph.now) s p q) (sym rows_are)
    (realised_by_rows c.vertices-vertices.ensures.graph p q
    (subst (IsOrder s) c.as_slice.ensures (c.is_order.ensures.0 c.if-not-is_order.false))
    (subst (IsOrder s) c.as_slice-else-not-is_order.ensures (c.is_order-else-not-is_order.ensures.0 c.if-not-is_order-2.false))
    none mid rows c.in_ok-rows.ensures.none
    (flipped_along p _ none _ mid c.as_slice-2.ensures c.deref_mut.ensures.value c.flip_before.ensures.flipped)
    (flipped_along q _ mid _ rows c.as_slice-3.ensures mid_is c.flip_before-2.ensures.flipped)))
