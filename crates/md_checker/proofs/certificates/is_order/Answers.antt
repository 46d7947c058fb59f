use Rattle.std.proofs.Common.{◌≡◌, ◌↔◌, get_or, sym, ◌∙◌, ap, subst}
use Rattle.std.proofs.lemmas.List.{take_all}
use Rattle.std.specs.FinSet.{contains}
use Rattle.md_comparability.specs.Orders.{IsOrder}
use Rattle.md_checker.proofs.Ordering.{IsFront, front_start, front_more, stranger, repeated, front_whole, refused, agreed}
use Rattle.md_checker.proofs.certificates.is_order.Goals as goal
use Rattle.md_checker.proofs.certificates.is_order.Goals.{then-not-has-via-then-not-has, then-not-has-via-else-not-has+then-has}

pub loop-v-init : goal.loop-v-init
loop-v-init g c = front_start c.args.graph.now.vertices c.none-seen.result c.none-seen.ensures.value

pub returns-then-not-has : goal.returns-then-not-has
returns-then-not-has g c = elim c.then-not-has.branch [
  | then-not-has-via-then-not-has w ↦
      refused (stranger c.args.graph.now.vertices c.args.list.now c.loop-v.v-index c.loop-v-test.true
      (ap (λ s. contains s (get_or c.args.list.now c.loop-v.v-index 0)) (sym c.vertices-vertices.ensures.set) ∙ sym c.has.ensures.value ∙ w.if-not-has.true))
  | then-not-has-via-else-not-has+then-has w ↦
      refused (repeated c.args.graph.now.vertices c.loop-v.seen c.args.list.now c.loop-v.v-index c.loop-v-test.true c.loop-v.invariant
      (sym w.has-else-not-has.ensures.value ∙ w.if-has.true))
]

pub loop-v-preserved : goal.loop-v-preserved
loop-v-preserved g c =
    front_more c.args.graph.now.vertices c.loop-v.seen _ c.args.list.now c.loop-v.v-index c.loop-v-test.true c.loop-v.invariant
    (ap (λ s. contains s (get_or c.args.list.now c.loop-v.v-index 0)) (sym c.vertices-vertices.ensures.set) ∙ sym c.has.ensures.value ∙ c.if-not-has.false)
    (sym c.has-else-not-has.ensures.value ∙ c.if-has.false) c.insert.ensures.changed

pub returns : goal.returns
returns g c =
    agreed c.is_same.ensures.exactly (subst (λ s. (c.loop-v.seen ≡ s) ↔ IsOrder c.args.graph.now.vertices c.args.list.now) (sym c.vertices-vertices.ensures.set) (front_whole c.args.graph.now.vertices c.loop-v.seen c.args.list.now
    (subst (IsFront c.args.graph.now.vertices c.loop-v.seen) (take_all c.loop-v.v-index c.args.list.now c.loop-v-test.false) c.loop-v.invariant)))
