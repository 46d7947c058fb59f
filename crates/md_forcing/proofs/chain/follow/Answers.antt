use Rattle.std.proofs.Common.{◌∙◌, ap, sym, subst, refl, arith, reverse as back_to_front}
use Rattle.md_forcing.specs.Forcing.{reverse}
use Rattle.md_forcing.proofs.Following.{Following, following_start, following_more, followed, has_first, turned_first}
use Rattle.md_forcing.proofs.chain.follow.Goals as goal

pub entry-requires : goal.entry-requires
entry-requires c = has_first c.requires.class.0 c.requires.class.1 _ c.requires.class.2

pub loop-at-init : goal.loop-at-init
loop-at-init c =
    subst (Following c.args.trail.now (reverse c.entry.result.0) c.args.last) (sym c.new-list.ensures.items)
    (following_start c.args.trail.now (reverse c.entry.result.0) c.args.last c.requires.turns.its_place (turned_first _ c.args.last c.requires.turns c.entry.result.0 c.entry.result.1 c.entry.ensures))

pub entry-place-requires : goal.entry-place-requires
entry-place-requires c = c.loop-at.invariant.within

pub loop-at-preserved : goal.loop-at-preserved
loop-at-preserved c =
    subst (Following c.args.trail.now (reverse c.entry.result.0) c.entry-place.result.1) (sym c.in_ok-push.ensures.items)
    (following_more _ _ _ _ c.loop-at.invariant c.requires.class.0 c.requires.class.1 c.requires.class.2 c.loop-at-test.true _ c.entry-place.result.1 c.entry-place.ensures).1

pub loop-at-smaller : goal.loop-at-smaller
loop-at-smaller c =
    (following_more _ _ _ _ c.loop-at.invariant c.requires.class.0 c.requires.class.1 c.requires.class.2 c.loop-at-test.true _ c.entry-place.result.1 c.entry-place.ensures).0

pub returns : goal.returns
returns c =
    followed _ _ _ _ c.loop-at.invariant _ c.entry.result.0 c.entry.result.1 (omega arith) refl c.entry.ensures (c.reverse.ensures.items ∙ ap back_to_front c.in_ok-push-2.ensures.items)
