use Rattle.std.proofs.Common.{◌+◌, sym, ◌∙◌, ap, subst, arith}
use Rattle.md_lists.specs.Links.{Links, IsLive}
use Rattle.md_cotree_edit.proofs.Marks.MarkedLeaf.{IsRising, mark_live, mark_begun, rise_end, rise_live, rise_room, rise_out, rise_on, rise_low}
use Rattle.md_cotree_edit.proofs.marking.mark.Goals as goal

pub set_note-requires-clause-live : goal.set_note-requires-clause-live
set_note-requires-clause-live g c = mark_live c.args.lists.now c.requires.links c.args.leaf c.requires.tree.0 c.requires.tree.1

pub loop-above-init : goal.loop-above-init
loop-above-init g c = record {
  live = subst (λ (z : Links). IsLive z c.args.leaf) (sym c.set_note.ensures.noted) (mark_live c.args.lists.now c.requires.links c.args.leaf c.requires.tree.0 c.requires.tree.1);
  links = c.set_note.ensures.links;
  still = (ap (λ (z : Links). z.kinds) c.set_note.ensures.noted, ap (λ (z : Links). z.parents) c.set_note.ensures.noted, ap (λ (z : Links). z.children) c.set_note.ensures.noted);
  rising = λ d can. mark_begun c.args.lists.now c.requires.links c.args.leaf d can c.set_note.new.self c.set_note.ensures.noted c.args.steps.now c.set_note.new.steps c.set_note.ensures.step;
}

pub raise-requires-clause-live : goal.raise-requires-clause-live
raise-requires-clause-live g c = rise_live c.args.lists.now c.requires.links c.args.leaf c.requires.tree.0 c.requires.tree.1 c.loop-above.lists c.loop-above.invariant.links c.loop-above.invariant.still c.loop-above.place c.args.steps.now c.loop-above.steps c.in-Some.above (sym c.in-Some.ensures.parent) (c.loop-above.invariant.rising c.requires.tree.0 c.requires.tree.1)

pub raise-requires-clause-room : goal.raise-requires-clause-room
raise-requires-clause-room g c = rise_room c.args.lists.now c.requires.links c.args.leaf c.requires.tree.0 c.requires.tree.1 c.loop-above.lists c.loop-above.invariant.links c.loop-above.invariant.still c.loop-above.place c.args.steps.now c.loop-above.steps c.in-Some.above (sym c.in-Some.ensures.parent) (c.loop-above.invariant.rising c.requires.tree.0 c.requires.tree.1)

pub tally-requires : goal.tally-requires
tally-requires g c =
    subst (λ (z : Links). IsLive z c.in-Some.above) (sym c.raise.ensures.raised) (rise_live c.args.lists.now c.requires.links c.args.leaf c.requires.tree.0 c.requires.tree.1 c.loop-above.lists c.loop-above.invariant.links c.loop-above.invariant.still c.loop-above.place c.args.steps.now c.loop-above.steps c.in-Some.above (sym c.in-Some.ensures.parent) (c.loop-above.invariant.rising c.requires.tree.0 c.requires.tree.1))

pub child_count-requires : goal.child_count-requires
child_count-requires g c =
    subst (λ (z : Links). IsLive z c.in-Some.above) (sym c.raise.ensures.raised) (rise_live c.args.lists.now c.requires.links c.args.leaf c.requires.tree.0 c.requires.tree.1 c.loop-above.lists c.loop-above.invariant.links c.loop-above.invariant.still c.loop-above.place c.args.steps.now c.loop-above.steps c.in-Some.above (sym c.in-Some.ensures.parent) (c.loop-above.invariant.rising c.requires.tree.0 c.requires.tree.1))

pub set_note-requires-in-Some-clause-live : goal.set_note-requires-in-Some-clause-live
set_note-requires-in-Some-clause-live g c =
    subst (λ (z : Links). IsLive z c.in-Some.above) (sym c.raise.ensures.raised) (rise_live c.args.lists.now c.requires.links c.args.leaf c.requires.tree.0 c.requires.tree.1 c.loop-above.lists c.loop-above.invariant.links c.loop-above.invariant.still c.loop-above.place c.args.steps.now c.loop-above.steps c.in-Some.above (sym c.in-Some.ensures.parent) (c.loop-above.invariant.rising c.requires.tree.0 c.requires.tree.1))

pub returns-then-tally-child_count-clause-told : goal.returns-then-tally-child_count-clause-told
returns-then-tally-child_count-clause-told g c = λ d can.
    (rise_out c.args.lists.now c.requires.links c.args.leaf d can c.loop-above.lists c.loop-above.invariant.links c.loop-above.invariant.still c.loop-above.place c.args.steps.now c.loop-above.steps c.in-Some.above (sym c.in-Some.ensures.parent) (c.loop-above.invariant.rising d can)
    c.raise.new.self c.raise.ensures.raised c.tally.result c.child_count.result c.tally.ensures.tally c.child_count.ensures.count c.if-tally-child_count.true).0

pub returns-then-tally-child_count-clause-steps : goal.returns-then-tally-child_count-clause-steps
returns-then-tally-child_count-clause-steps g c = λ d can.
    let low = (rise_out c.args.lists.now c.requires.links c.args.leaf d can c.loop-above.lists c.loop-above.invariant.links c.loop-above.invariant.still c.loop-above.place c.args.steps.now c.loop-above.steps c.in-Some.above (sym c.in-Some.ensures.parent) (c.loop-above.invariant.rising d can)
    c.raise.new.self c.raise.ensures.raised c.tally.result c.child_count.result c.tally.ensures.tally c.child_count.ensures.count c.if-tally-child_count.true).1 in
    let a = c.in-Some.ensures.step in
    let b = c.raise.ensures.step in
    let e = c.tally.ensures.step in
    let f = c.child_count.ensures.step in
    omega arith

pub loop-above-smaller : goal.loop-above-smaller
loop-above-smaller g c =
    let low = rise_low c.args.lists.now c.requires.links c.args.leaf c.requires.tree.0 c.requires.tree.1 c.set_note-in-Some.new.self c.in-Some.above c.args.steps.now (c.loop-above.steps + 5)
    (rise_on c.args.lists.now c.requires.links c.args.leaf c.requires.tree.0 c.requires.tree.1 c.loop-above.lists c.loop-above.invariant.links c.loop-above.invariant.still c.loop-above.place c.args.steps.now c.loop-above.steps c.in-Some.above (sym c.in-Some.ensures.parent) (c.loop-above.invariant.rising c.requires.tree.0 c.requires.tree.1)
    c.raise.new.self c.raise.ensures.raised c.tally.result c.child_count.result c.tally.ensures.tally c.child_count.ensures.count c.if-tally-child_count.false c.set_note-in-Some.new.self c.set_note-in-Some.ensures.noted) in
    let a = c.in-Some.ensures.step in
    let b = c.raise.ensures.step in
    let e = c.tally.ensures.step in
    let f = c.child_count.ensures.step in
    let h = c.set_note-in-Some.ensures.step in
    omega arith

pub loop-above-preserved : goal.loop-above-preserved
loop-above-preserved g c = record {
  live =
      subst (λ (z : Links). IsLive z c.in-Some.above) (sym c.set_note-in-Some.ensures.noted)
      (subst (λ (z : Links). IsLive z c.in-Some.above) (sym c.raise.ensures.raised) (rise_live c.args.lists.now c.requires.links c.args.leaf c.requires.tree.0 c.requires.tree.1 c.loop-above.lists c.loop-above.invariant.links c.loop-above.invariant.still c.loop-above.place c.args.steps.now c.loop-above.steps c.in-Some.above (sym c.in-Some.ensures.parent) (c.loop-above.invariant.rising c.requires.tree.0 c.requires.tree.1)));
  links = c.set_note-in-Some.ensures.links;
  still = (
    ap (λ (z : Links). z.kinds) c.set_note-in-Some.ensures.noted ∙ ap (λ (z : Links). z.kinds) c.raise.ensures.raised ∙ c.loop-above.invariant.still.0,
    ap (λ (z : Links). z.parents) c.set_note-in-Some.ensures.noted ∙ ap (λ (z : Links). z.parents) c.raise.ensures.raised ∙ c.loop-above.invariant.still.1,
    ap (λ (z : Links). z.children) c.set_note-in-Some.ensures.noted ∙ ap (λ (z : Links). z.children) c.raise.ensures.raised ∙ c.loop-above.invariant.still.2,
  );
  rising = λ d can.
      subst (IsRising c.set_note-in-Some.new.self d.marks d.name d.tree c.in-Some.above c.args.steps.now)
      (let a = c.in-Some.ensures.step in
      let b = c.raise.ensures.step in
      let e = c.tally.ensures.step in
      let f = c.child_count.ensures.step in
      let h = c.set_note-in-Some.ensures.step in
      omega arith)
      (rise_on c.args.lists.now c.requires.links c.args.leaf d can c.loop-above.lists c.loop-above.invariant.links c.loop-above.invariant.still c.loop-above.place c.args.steps.now c.loop-above.steps c.in-Some.above (sym c.in-Some.ensures.parent) (c.loop-above.invariant.rising d can)
      c.raise.new.self c.raise.ensures.raised c.tally.result c.child_count.result c.tally.ensures.tally c.child_count.ensures.count c.if-tally-child_count.false c.set_note-in-Some.new.self c.set_note-in-Some.ensures.noted);
}

pub returns-clause-told : goal.returns-clause-told
returns-clause-told g c = λ d can.
    (rise_end c.args.lists.now c.requires.links c.args.leaf d can c.loop-above.lists c.loop-above.invariant.links c.loop-above.invariant.still c.loop-above.place c.args.steps.now c.loop-above.steps (sym c.in_default.ensures.parent) (c.loop-above.invariant.rising d can)).0

pub returns-clause-steps : goal.returns-clause-steps
returns-clause-steps g c = λ d can.
    let low = (rise_end c.args.lists.now c.requires.links c.args.leaf d can c.loop-above.lists c.loop-above.invariant.links c.loop-above.invariant.still c.loop-above.place c.args.steps.now c.loop-above.steps (sym c.in_default.ensures.parent) (c.loop-above.invariant.rising d can)).1 in
    let a = c.in_default.ensures.step in
    omega arith
