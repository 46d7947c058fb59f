use Rattle.std.proofs.Common.{◌≡◌, ◌+◌, ◌-◌, ◌≤◌, ◌∷◌, arith, rules, ap, sym, ◌∙◌, length, take}
use Rattle.std.proofs.lemmas.Grind.{common_steps}
use Rattle.md_dimacs.proofs.PlacesLemmas.{front_is}
use Rattle.md_dimacs.proofs.spelling.start_piece.Goals as goal

pub returns : goal.returns
returns c front last text =
    let some = c.requires.some in
    let used : c.args.place.used ≡ c.args.place.used - 1 + 1 = grind (arith, common_steps, some) in
    let within : c.args.place.used ≤ length c.args.place.bytes = search rules in
    let number = front_is (c.args.place.used - 1) c.args.place.bytes front last (omega (arith, within, used)) (ap (λ n. take n c.args.place.bytes) (sym used) ∙ text) in
    c.piece_behind.ensures.text ∙ ap (λ l. 101 ∷ l) number
