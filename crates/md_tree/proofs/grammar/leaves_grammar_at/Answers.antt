use Rattle.md_tree.specs.Spellings.{spelling}
use Rattle.md_tree.proofs.Spelled.{is_spelling}
use Rattle.md_tree.proofs.Places.{leaves_at_place, tree_in_grammar}
use Rattle.std.proofs.Common.{refl}
use Rattle.std.proofs.Common.{subst}
use Rattle.std.specs.Prelude.{MatchOption}
use Rattle.md_tree.specs.Languages.{IsTreeText, IsStuck}
use Rattle.md_tree.proofs.grammar.leaves_grammar_at.Goals as goal

pub returns-in-Some : goal.returns-in-Some
returns-in-Some g c =
    let sp = spelling g.K.Lettered.rules g.P.Paired.rules in let law = is_spelling g.met.K.Lettered.laws g.met.P.Paired.laws in
    leaves_at_place law c.args.bytes.now c.in-Some.tail.now c.in_default.ensures.other
    (subst (λ o. MatchOption o (IsTreeText sp c.args.bytes.now) (λ tail. IsStuck (IsTreeText sp) c.args.bytes.now tail.now)) c.in-Some.is c.in_ok-tail.ensures) _ refl

pub returns-in-None : goal.returns-in-None
returns-in-None g c =
    let sp = spelling g.K.Lettered.rules g.P.Paired.rules in let law = is_spelling g.met.K.Lettered.laws g.met.P.Paired.laws in
    tree_in_grammar law c.args.bytes.now
    (subst (λ o. MatchOption o (IsTreeText sp c.args.bytes.now) (λ tail. IsStuck (IsTreeText sp) c.args.bytes.now tail.now)) c.in-None.is c.in_ok-tail.ensures)
