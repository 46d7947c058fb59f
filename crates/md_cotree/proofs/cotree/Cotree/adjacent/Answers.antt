use Rattle.std.proofs.Common.{sym, ◌∙◌, subst}
use Rattle.md_graph.specs.PlainGraph.{adjacent}
use Rattle.md_cotree.specs.Climbs.{Meets}
use Rattle.md_cotree.proofs.Leaves.{place_live, place_meets, no_leaf_left, no_leaf_right, no_loop}
use Rattle.md_cotree.proofs.cotree.Cotree.adjacent.Goals as goal

pub returns-then-u-v : goal.returns-then-u-v
returns-then-u-v c = λ g is. sym (no_loop c.args.self.now g is c.args.u c.args.v c.if-u-v.true)

pub meets_at_series-requires-clause-left : goal.meets_at_series-requires-clause-left
meets_at_series-requires-clause-left c = place_live c.args.self.now c.requires.0 c.args.u c.in-Some-Some.p c.requires.1 (sym c.place.ensures ∙ c.in-Some-Some.is-0)

pub meets_at_series-requires-clause-right : goal.meets_at_series-requires-clause-right
meets_at_series-requires-clause-right c = place_live c.args.self.now c.requires.0 c.args.v c.in-Some-Some.q c.requires.1 (sym c.place-2.ensures ∙ c.in-Some-Some.is-1)

pub meets_at_series-requires-clause-ways : goal.meets_at_series-requires-clause-ways
meets_at_series-requires-clause-ways c = (
  _,
  place_meets c.args.self.now c.requires.0 c.requires.1 c.spare-spare.ensures.links c.args.u c.args.v c.in-Some-Some.p c.in-Some-Some.q c.if-u-v.false (sym c.place.ensures ∙ c.in-Some-Some.is-0)
      (sym c.place-2.ensures ∙ c.in-Some-Some.is-1),
)

pub returns-in_default : goal.returns-in_default
returns-in_default c = λ g is. sym (no_leaf_right c.args.self.now g is c.args.u c.args.v (sym c.place-2.ensures ∙ c.in_default.is-1))

pub returns-in_default-2 : goal.returns-in_default-2
returns-in_default-2 c = λ g is. sym (no_leaf_left c.args.self.now g is c.args.u c.args.v (sym c.place.ensures ∙ c.in_default.is-0))

pub returns-in-Some-Some : goal.returns-in-Some-Some
returns-in-Some-Some c = λ g is.
    c.meets_at_series.ensures (adjacent g c.args.u c.args.v)
    (subst (λ h. Meets c.args.self.now.lists c.in-Some-Some.p c.in-Some-Some.q (adjacent h c.args.u c.args.v)) is.2
    (place_meets c.args.self.now is.0 is.1 c.spare-spare.ensures.links c.args.u c.args.v c.in-Some-Some.p c.in-Some-Some.q c.if-u-v.false (sym c.place.ensures ∙ c.in-Some-Some.is-0)
    (sym c.place-2.ensures ∙ c.in-Some-Some.is-1)))
