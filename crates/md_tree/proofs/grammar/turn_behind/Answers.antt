use Rattle.std.proofs.Common.{◌≡◌, [], sym, ◌∙◌, subst, arith}
use Rattle.std.proofs.lemmas.List.{nil_from_length}
use Rattle.std.proofs.lemmas.Result.{IfOk-weaker}
use Rattle.md_tree.specs.Languages.{IsStuck, IsReadingTurn, Tail}
use Rattle.md_tree.specs.Spellings.{spelling}
use Rattle.md_tree.proofs.Spelled.{is_spelling}
use Rattle.md_tree.proofs.Leaving.{none_open, popped, tail_over}
use Rattle.md_tree.proofs.grammar.turn_behind.Goals as goal

pub returns-then-is_empty : goal.returns-then-is_empty
returns-then-is_empty g c ks are =
    let sp = spelling g.K.Lettered.rules g.P.Paired.rules in
    let none : ks ≡ [] = none_open ks c.args.opens.now.items are (nil_from_length _ (sym c.args.opens.now.ok.0 ∙ c.in-None.ensures.cases.0)) in
    subst (λ js. Tail sp js c.args.text.now) (sym none) (nil_from_length c.args.text.now (grind (arith, c.is_empty.ensures, c.if-is_empty.true)))

pub returns-else-is_empty : goal.returns-else-is_empty
returns-else-is_empty g c ks are =
    let sp = spelling g.K.Lettered.rules g.P.Paired.rules in let law = is_spelling g.met.K.Lettered.laws g.met.P.Paired.laws in
    let none : ks ≡ [] = none_open ks c.args.opens.now.items are (nil_from_length _ (sym c.args.opens.now.ok.0 ∙ c.in-None.ensures.cases.0)) in
    subst (λ js. IsStuck (Tail sp js) c.args.text.now c.args.text.now) (sym none) (tail_over law c.args.text.now (grind (arith, c.is_empty.ensures, c.if-is_empty.false)))

pub returns-in-Some : goal.returns-in-Some
returns-in-Some g c =
    let sp = spelling g.K.Lettered.rules g.P.Paired.rules in
    IfOk-weaker c.turn_inside.result _ _
    (λ turn h ks are.
    let p = popped ks c.args.opens.now.items c.pop.new.self.items c.in-Some.kind are c.in-Some.ensures.items in
    subst (λ js. IsReadingTurn sp (Tail sp js) c.args.text.now turn c.turn_inside.new.opens.items) (sym p.1) (h p.0 p.2))
    c.turn_inside.ensures
