use Rattle.std.proofs.Common.{◌≢◌, codes, arith}
use Rattle.md_tree.proofs.Spelled.{is_spelling}
use Rattle.md_tree.proofs.Places.{leaves_word}
use Rattle.md_tree.proofs.grammar.leaves_word_at.Goals as goal

pub returns : goal.returns
returns g c =
    let law = is_spelling g.met.K.Lettered.laws g.met.P.Paired.laws in
    let bytes = c.args.bytes.now in
    let other : bytes ≢ codes "empty" = λ e. grind (arith, c.eq.ensures, c.as_slice.ensures, c.if-eq.false, e) in
    leaves_word law bytes c.requires.0 c.common_front.result c.requires.1 other c.common_front.ensures.within c.common_front.ensures.within_other c.common_front.ensures.same c.common_front.ensures.stops
