use Rattle.std.proofs.Common.{sym, ◌∙◌, subst, arith}
use Rattle.md_cotree.proofs.Ways.{parent_live}
use Rattle.md_cotree_edit.specs.Marks.{AreWalkedOver, walked_on}
use Rattle.md_cotree_edit.proofs.Climbs.WalkedPlace.{full_turn, root_turn, parent_kind, noted_turn, breach_noted, breach_fails}
use Rattle.md_cotree_edit.proofs.climbing.note_parent.Goals as goal

pub returns-then-note-eq-FULL-clause-walked : goal.returns-then-note-eq-FULL-clause-walked
returns-then-note-eq-FULL-clause-walked g c = λ d can yes.
    full_turn c.args.lists.now c.requires.links d can.walked c.args.place (let e = c.note.ensures.note in let f = c.if-note-eq-FULL.true in omega arith)

pub returns-in_default-clause-walked : goal.returns-in_default-clause-walked
returns-in_default-clause-walked g c = λ d can yes.
    root_turn c.args.lists.now c.requires.links d can.walked c.args.place (λ x. c.if-note-eq-FULL.false (c.note.ensures.note ∙ x)) (sym c.in_default.ensures.parent)

pub note-requires-2 : goal.note-requires-2
note-requires-2 g c = parent_live c.args.lists.now c.requires.links c.args.place c.in-Some.above (sym c.in-Some.ensures.parent)

pub returns-then-note-eq-PATH-clause-breach : goal.returns-then-note-eq-PATH-clause-breach
returns-then-note-eq-PATH-clause-breach g c = λ d can no take.
    breach_noted c.args.lists.now c.requires.links d can.walked c.args.place c.in-Some.above (λ x. c.if-note-eq-FULL.false (c.note.ensures.note ∙ x)) (sym c.in-Some.ensures.parent) can.seen c.requires.marked can.fresh
    (let e = c.note-2.ensures.note in let f = c.if-note-eq-PATH.true in omega arith) take

pub passes-requires : goal.passes-requires
passes-requires g c =
    let tree = c.requires.tree in
    record {
      kind = parent_kind c.args.lists.now c.requires.links tree.0 tree.1.walked c.args.place c.in-Some.above (λ x. c.if-note-eq-FULL.false (c.note.ensures.note ∙ x)) (sym c.in-Some.ensures.parent);
    }

pub returns-then-not-passes-clause-breach : goal.returns-then-not-passes-clause-breach
returns-then-not-passes-clause-breach g c = λ d can no take.
    breach_fails c.args.lists.now c.requires.links d can.walked c.args.place c.in-Some.above (λ x. c.if-note-eq-FULL.false (c.note.ensures.note ∙ x)) (sym c.in-Some.ensures.parent) can.seen c.requires.marked
    (λ k kind pass. let h = (c.passes.ensures.passes k kind).1 pass in let f = c.if-not-passes.true in absurd cc) take

pub set_note-requires-clause-live : goal.set_note-requires-clause-live
set_note-requires-clause-live g c = parent_live c.args.lists.now c.requires.links c.args.place c.in-Some.above (sym c.in-Some.ensures.parent)

pub returns-clause-walked : goal.returns-clause-walked
returns-clause-walked g c = λ d can yes.
    subst (λ z. AreWalkedOver z (walked_on d c.args.place)) (sym c.set_note.ensures.noted)
    (noted_turn c.args.lists.now c.requires.links d can.walked c.args.place c.in-Some.above (λ x. c.if-note-eq-FULL.false (c.note.ensures.note ∙ x)) (sym c.in-Some.ensures.parent)
    (λ x. c.if-note-eq-PATH.false (c.note-2.ensures.note ∙ x)) (λ k kind. (c.passes.ensures.passes k kind).0 c.if-not-passes.false))
