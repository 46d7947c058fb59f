use Rattle.std.proofs.Common.{arith}
use Rattle.std.proofs.lemmas.List.{nil_from_length}
use Rattle.md_tree.proofs.Spelled.{is_spelling}
use Rattle.md_tree.proofs.Coming.{behind_comma, useless_over}
use Rattle.md_text.proofs.FrontLemmas.{shorter_tail}
use Rattle.md_tree.proofs.builder.step_comma.Goals as goal

pub returns-then-is_empty : goal.returns-then-is_empty
returns-then-is_empty g c bytes h =
    let law = is_spelling g.met.K.Lettered.laws g.met.P.Paired.laws in
    let s = shorter_tail 44 _ _ c.requires in
    let o = c.args.held.now.opens.ok.0 in
    useless_over law bytes c.args.text.now c.args.held.now.opens.items _ h.comes
    (nil_from_length _ (grind (arith, c.is_empty.ensures, c.if-is_empty.true, o)))
    (omega arith)

pub returns : goal.returns
returns g c bytes h =
    let law = is_spelling g.met.K.Lettered.laws g.met.P.Paired.laws in (
      record { kept = h.kept; comes = behind_comma law bytes c.args.text.now c.args.held.now.opens.items _ c.args.tail.now h.comes (let o = c.args.held.now.opens.ok.0 in grind (arith, c.is_empty.ensures, c.if-is_empty.false, o)) c.requires },
      shorter_tail 44 _ _ c.requires,
    )
