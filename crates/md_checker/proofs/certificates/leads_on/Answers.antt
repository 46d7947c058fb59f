use Rattle.std.proofs.Common.{◌<◌, ◌∙◌, rules, sym, subst, refl, get_or}
use Rattle.std.proofs.lemmas.List.{take_all}
use Rattle.md_graph.proofs.SetLemmas.{clash}
use Rattle.md_forcing.specs.Forcing.{arc, reverse}
use Rattle.md_forcing.specs.Sides.{adjacent_on}
use Rattle.md_forcing.proofs.OneSide.{arc_within}
use Rattle.md_checker.proofs.Ordering.{refused, agreed}
use Rattle.md_checker.proofs.Leading.{IsLed, led_start, led_more, led_astray, led_again, led_end, arc_test}
use Rattle.md_checker.proofs.certificates.leads_on.Goals as goal
use Rattle.md_checker.proofs.certificates.leads_on.Goals.{then-not-is_forced-via-then-not-is_forced, then-not-is_forced-via-else-not-is_forced+then-has_arc}

pub put_arc-requires : goal.put_arc-requires
put_arc-requires g c =
    let tail = (arc_within c.vertices-vertices.ensures.graph c.args.side _ c.requires.room c.args.first c.requires.arc).0 in
    let head = (arc_within c.vertices-vertices.ensures.graph c.args.side _ c.vertices-vertices.ensures.below c.args.first c.requires.arc).1 in
    (search rules, (c.vertices-vertices.ensures.limit, (tail, head)))

pub loop-next-init : goal.loop-next-init
loop-next-init g c = record {
  room = λ v h. subst (λ n. v < n) (sym c.put_arc.ensures.room) (c.requires.room v h);
  led = led_start (adjacent_on c.args.side c.args.graph.now) c.args.first _ _ c.requires.none c.put_arc.ensures.taken;
}

pub has_arc-requires : goal.has_arc-requires
has_arc-requires g c =
    let is = (c.is_forced.ensures.0 c.if-not-is_forced.false).0 in
    let next = get_or c.args.rest.now c.loop-next.next-index (arc 0 0) in
    (search rules, (c.vertices-vertices.ensures.limit, (arc_within c.vertices-vertices.ensures.graph c.args.side _ c.loop-next.invariant.room next is).0))

pub put_arc-requires-in-loop-next : goal.put_arc-requires-in-loop-next
put_arc-requires-in-loop-next g c =
    let next = get_or c.args.rest.now c.loop-next.next-index (arc 0 0) in
    let is = (c.is_forced.ensures.0 c.if-not-is_forced.false).0 in
    let tail = (arc_within c.vertices-vertices.ensures.graph c.args.side _ c.loop-next.invariant.room next is).0 in
    let head = (arc_within c.vertices-vertices.ensures.graph c.args.side _ c.vertices-vertices.ensures.below next is).1 in
    (search rules, (c.vertices-vertices.ensures.limit, (tail, head)))

pub returns-then-not-is_forced : goal.returns-then-not-is_forced
returns-then-not-is_forced g c = elim c.then-not-is_forced.branch [
  | then-not-is_forced-via-then-not-is_forced w ↦
      refused (led_astray (adjacent_on c.args.side c.args.graph.now) c.args.first c.loop-next.last c.loop-next.rows c.args.rest.now c.loop-next.next-index c.loop-next-test.true (get_or c.args.rest.now c.loop-next.next-index (arc 0 0)) (arc 0 0) refl c.loop-next.invariant.led
      (λ p. clash (c.is_forced.ensures.1 p) w.if-not-is_forced.true))
  | then-not-is_forced-via-else-not-is_forced+then-has_arc w ↦
      refused (led_again (adjacent_on c.args.side c.args.graph.now) c.args.first c.loop-next.last c.loop-next.rows c.args.rest.now c.loop-next.next-index c.loop-next-test.true (get_or c.args.rest.now c.loop-next.next-index (arc 0 0)) (arc 0 0) refl c.loop-next.invariant.led
      (sym w.has_arc.ensures ∙ w.if-has_arc.true))
]

pub loop-next-preserved : goal.loop-next-preserved
loop-next-preserved g c =
    let forced = c.is_forced.ensures.0 c.if-not-is_forced.false in
    record {
      room = λ v h. subst (λ n. v < n) (sym c.put_arc-in-loop-next.ensures.room) (c.loop-next.invariant.room v h);
      led = led_more (adjacent_on c.args.side c.args.graph.now) c.args.first c.loop-next.last c.loop-next.rows c.args.rest.now c.loop-next.next-index c.loop-next-test.true (get_or c.args.rest.now c.loop-next.next-index (arc 0 0)) (arc 0 0) refl _ c.loop-next.invariant.led forced.0 forced.1
          (λ s. clash s (sym c.has_arc.ensures ∙ c.if-has_arc.false)) c.put_arc-in-loop-next.ensures.taken;
    }

pub returns : goal.returns
returns g c =
    agreed (arc_test c.loop-next.last (reverse c.args.first) c.eq.result c.eq.ensures)
    (led_end (adjacent_on c.args.side c.args.graph.now) c.args.first c.loop-next.last c.loop-next.rows c.args.rest.now c.requires.arc
    (subst (IsLed (adjacent_on c.args.side c.args.graph.now) c.args.first c.loop-next.last c.loop-next.rows) (take_all c.loop-next.next-index c.args.rest.now c.loop-next-test.false) c.loop-next.invariant.led))
