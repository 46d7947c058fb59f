use Rattle.std.proofs.Common.{◌∷◌, sym, ◌∙◌, arith}
use Rattle.std.proofs.lemmas.List.{append_cancel_left}
use Rattle.md_checker.proofs.HeadPairs.{if_other, no_pairs}
use Rattle.md_checker.proofs.head_pairs.past_pairs.Goals as goal

pub spell-requires : goal.spell-requires
spell-requires g c = record { some = c.requires.heads.some; ascending = c.requires.heads.order; few = (let few = c.requires.few in omega arith) }

pub returns-then-rest-text-clause-none : goal.returns-then-rest-text-clause-none
returns-then-rest-text-clause-none g c tail some is =
    let found = c.in-Some.is in
    let p = c.past_heads.ensures in
    let q = rw found at p in
    some (no_pairs g.P.Paired.rules _ c.args.text.now c.in-Some.rest.now q (let same = c.if-rest-text.true in omega arith))

pub returns-clause-none : goal.returns-clause-none
returns-clause-none g c =
    let found = c.in-Some.is in
    let p = c.past_heads.ensures in
    let q = rw found at p in
    if_other _ c.past_bracket.result (λ other tail some is. other tail (append_cancel_left _ c.in-Some.rest.now (41 ∷ tail) (sym q ∙ is))) c.past_bracket.ensures
