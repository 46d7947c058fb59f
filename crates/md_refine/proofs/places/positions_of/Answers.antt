use Rattle.std.proofs.Common.{ℕ, false, length, None, refl, sym, ◌∙◌, ap, arith}
use Rattle.std.proofs.lemmas.List.{get_or_read, length-set, length-replicate}
use Rattle.std.proofs.lemmas.Option.{none-some, same_Some}
use Rattle.md_refine.proofs.Numbering.{place_within, position_more, numbered}
use Rattle.md_refine.proofs.Rests.{rest_first, rest_low, rest_more, rest_some}
use Rattle.md_refine.proofs.places.positions_of.Goals as goal

pub loop-index-init : goal.loop-index-init
loop-index-init c = record {
  len = ap length c.in_ok-positions.ensures.items ∙ length-replicate {A = ℕ} c.args.count 0;
  rest = λ order is. rest_first (λ _. false) _ _ order _ is;
  done = λ order is j low. absurd (omega arith);
}

pub index_mut-requires : goal.index_mut-requires
index_mut-requires c =
    let o = c.requires.order in
    let i = c.loop-index.invariant in
    let some = rest_some (λ _. false) _ _ _ _ o.0 (i.rest o.0 o.1) (omega arith) in
    let low = place_within _ _ o.0 _ o.1 c.loop-index.index (omega arith) in
    let here = same_Some _ _ (sym c.in-Some.is ∙ some.1) ∙ some.2 in
    let long = i.len in
    omega arith

pub index-next-requires : goal.index-next-requires
index-next-requires c =
    let o = c.requires.order in
    let low = rest_low (λ _. false) _ _ _ _ o.0 (c.loop-index.invariant.rest o.0 o.1) c.in-Some.place c.in-Some.is in
    omega arith

pub unreachable-requires : goal.unreachable-requires
unreachable-requires c =
    let o = c.requires.order in
    let some = rest_some (λ _. false) _ _ _ _ o.0 (c.loop-index.invariant.rest o.0 o.1) (omega arith) in
    none-some some.0 (sym c.in-None.is ∙ some.1)

pub loop-index-preserved : goal.loop-index-preserved
loop-index-preserved c =
    let i = c.loop-index.invariant in
    record {
      len = length-set c.loop-index.positions.items c.in-Some.place c.loop-index.index ∙ i.len;
      rest = λ order is.
          let has = i.rest order is in
          let low = rest_low (λ _. false) _ _ _ _ order has c.in-Some.place c.in-Some.is in
          let read = get_or_read c.args.nexts.now.items c.in-Some.place c.index-next.result.now low c.index-next.ensures None in
          rest_more (λ _. false) _ _ _ _ order has c.in-Some.place c.index-next.result.now c.in-Some.is read refl;
      done = λ order is.
          let some = rest_some (λ _. false) _ _ _ _ order (i.rest order is) (omega arith) in
          let here = same_Some _ _ (sym c.in-Some.is ∙ some.1) ∙ some.2 in
          position_more _ _ order _ is c.loop-index.positions.items c.loop-index.index c.in-Some.place i.len (omega arith) here (i.done order is);
    }

pub returns-clause-positions : goal.returns-clause-positions
returns-clause-positions c = λ order is q low.
    numbered _ _ order _ is _ (λ j below. c.loop-index.invariant.done order is j (omega arith)) q low
