use Rattle.std.proofs.Common.{◌≡◌, false, get_or, None, refl, sym, ◌∙◌, ap, arith}
use Rattle.std.proofs.lemmas.List.{get_or_read}
use Rattle.std.proofs.lemmas.Option.{none-some}
use Rattle.std.specs.Option.{unwrap_or}
use Rattle.md_refine.proofs.Rests.{rest_first, rest_low, rest_more, rest_some}
use Rattle.md_refine.proofs.places.place_at.Goals as goal

pub loop-init : goal.loop-init
loop-init c = λ order is. rest_first (λ _. false) _ _ order _ is

pub index-next-requires : goal.index-next-requires
index-next-requires c =
    let o = c.requires.order in
    let low = rest_low (λ _. false) _ _ _ _ o.0 (c.loop.invariant o.0 o.1) c.in-Some.place c.in-Some.is in
    omega arith

pub unreachable-requires : goal.unreachable-requires
unreachable-requires c =
    let o = c.requires.order in
    let some = rest_some (λ _. false) _ _ _ _ o.0 (c.loop.invariant o.0 o.1) (omega arith) in
    none-some some.0 (sym c.in-None.is ∙ some.1)

pub loop-preserved : goal.loop-preserved
loop-preserved c = λ order is.
    let has = c.loop.invariant order is in
    let low = rest_low (λ _. false) _ _ _ _ order has c.in-Some.place c.in-Some.is in
    let read = get_or_read c.args.nexts.now.items c.in-Some.place c.index-next.result.now low c.index-next.ensures None in
    rest_more (λ _. false) _ _ _ _ order has c.in-Some.place c.index-next.result.now c.in-Some.is read refl

pub returns : goal.returns
returns c = record {
  place = λ order is.
      let at_end : c.loop.counter ≡ c.args.index = omega arith in
      let some = rest_some (λ _. false) _ _ _ _ order (c.loop.invariant order is) (let e = at_end in let more = c.requires.more in omega arith) in
      c.unwrap_or.ensures ∙ ap (λ o. unwrap_or o 0) some.1 ∙ some.2 ∙ ap (λ k. get_or order k 0) at_end;
}
