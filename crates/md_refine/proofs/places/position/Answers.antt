use Rattle.std.proofs.Common.{◌==◌, None, arith}
use Rattle.std.proofs.lemmas.Bool.{eq-eqb, ne_eqb}
use Rattle.std.proofs.lemmas.List.{get_or_read}
use Rattle.md_refine.proofs.Rests.{rest_first, rest_low, rest_found, rest_more, rest_none, rest_over}
use Rattle.md_refine.proofs.places.position.Goals as goal

pub loop-index-init : goal.loop-index-init
loop-index-init c = λ order is. rest_first (λ p. p == c.args.place) _ _ order _ is

pub returns-then-found-place : goal.returns-then-found-place
returns-then-found-place c = record {
  position = λ order is. rest_found (λ p. p == c.args.place) _ _ _ _ order (c.loop-index.invariant order is) c.in-Some.found c.in-Some.is (eq-eqb c.in-Some.found c.args.place c.if-found-place.true);
}

pub index-next-requires : goal.index-next-requires
index-next-requires c =
    let o = c.requires.order in
    let low = rest_low (λ p. p == c.args.place) _ _ _ _ o.0 (c.loop-index.invariant o.0 o.1) c.in-Some.found c.in-Some.is in
    omega arith

pub loop-index-preserved : goal.loop-index-preserved
loop-index-preserved c = λ order is.
    let has = c.loop-index.invariant order is in
    let low = rest_low (λ p. p == c.args.place) _ _ _ _ order has c.in-Some.found c.in-Some.is in
    let read = get_or_read c.args.nexts.now.items c.in-Some.found c.index-next.result.now low c.index-next.ensures None in
    rest_more (λ p. p == c.args.place) _ _ _ _ order has c.in-Some.found c.index-next.result.now c.in-Some.is read (ne_eqb c.in-Some.found c.args.place c.if-found-place.false)

pub returns-in-None : goal.returns-in-None
returns-in-None c = record {
  position = λ order is. rest_none (λ p. p == c.args.place) _ _ _ _ order (c.loop-index.invariant order is) c.in-None.is;
}

pub returns : goal.returns
returns c = record {
  position = λ order is.
      let has = c.loop-index.invariant order is in
      rest_none (λ p. p == c.args.place) _ _ _ _ order has (rest_over (λ p. p == c.args.place) _ _ _ _ order has (omega arith));
}
