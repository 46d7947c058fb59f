use Rattle.std.proofs.Common.{arith}
use Rattle.std.proofs.lemmas.List.{nil_from_length}
use Rattle.md_tree.proofs.Spelled.{is_spelling}
use Rattle.md_tree.proofs.Coming.{behind_end, useless_open}
use Rattle.md_tree.proofs.builder.step_at_end.Goals as goal

pub returns-then-is_empty : goal.returns-then-is_empty
returns-then-is_empty g c bytes h =
    let law = is_spelling g.met.K.Lettered.laws g.met.P.Paired.laws in
    let o = c.args.held.now.opens.ok.0 in
    behind_end law bytes c.args.text.now c.args.held.now.opens.items _ _ _ h.kept h.comes
    (nil_from_length _ (grind (arith, c.is_empty.ensures, c.if-is_empty.true, o))) c.requires

pub returns : goal.returns
returns g c bytes h =
    let law = is_spelling g.met.K.Lettered.laws g.met.P.Paired.laws in
    let o = c.args.held.now.opens.ok.0 in
    useless_open law bytes c.args.text.now c.args.held.now.opens.items _ h.comes (grind (arith, c.is_empty.ensures, c.if-is_empty.false, o)) c.requires
