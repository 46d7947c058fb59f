use Rattle.std.proofs.Common.{◌*◌, ◌<◌, ◌≤◌, ◌∷◌, [], ◌++◌, length, refl, sym, ◌∙◌, ap, subst, arith}
use Rattle.md_graph.specs.Linked.{times}
use Rattle.md_lists.specs.Links.{Links}
use Rattle.md_lists.proofs.ListLaws.{times-append}
use Rattle.md_lists.proofs.LinkLaws.{mark_once, few_marked as few_places}
use Rattle.md_cotree_edit.specs.Marks.{hits_in, walked_to}
use Rattle.md_cotree_edit.proofs.Marks.FewMarked.{few_marked}
use Rattle.md_cotree_edit.proofs.Climbs.WalkedList.{IsPassing, pass_begin, pass_marked, pass_seen, pass_more, pass_end, room_left, room_less, length_more}
use Rattle.md_cotree_edit.proofs.Climbs.WalkedPlace.{climb_begin, climb_next, climb_at, climb_marked, climb_told, climb_takes}
use Rattle.md_cotree_edit.proofs.climbing.climb.Goals as goal

pub loop-next-init : goal.loop-next-init
loop-next-init g c = record {
  done = [];
  pass = pass_begin _ _ c.first_marked-next.ensures.first;
  walked = climb_begin c.args.lists.now;
  still = (refl, refl, refl);
  steps = omega arith;
  links = c.requires.links;
}

pub note_parent-requires-clause-marked : goal.note_parent-requires-clause-marked
note_parent-requires-clause-marked g c =
    let pass = subst (IsPassing c.loop-next.invariant.done c.loop-next.lists.marked) c.in-Some.is c.loop-next.invariant.pass in
    climb_marked c.loop-next.lists c.loop-next.invariant.links c.in-Some.place (pass_marked _ _ _ pass)

pub note_parent-requires-clause-tree : goal.note_parent-requires-clause-tree
note_parent-requires-clause-tree g c =
    let pass = subst (IsPassing c.loop-next.invariant.done c.loop-next.lists.marked) c.in-Some.is c.loop-next.invariant.pass in
    let tree = c.requires.tree in (
      walked_to tree.0 c.loop-next.invariant.done,
      climb_at c.loop-next.lists c.loop-next.invariant.links tree.0 c.loop-next.invariant.done c.in-Some.place pass (c.loop-next.invariant.walked tree.0 tree.1),
    )

pub returns-then-not-note_parent-clause-can_take : goal.returns-then-not-note_parent-clause-can_take
returns-then-not-note_parent-clause-can_take g c = λ d can.
    let pass = subst (IsPassing c.loop-next.invariant.done c.loop-next.lists.marked) c.in-Some.is c.loop-next.invariant.pass in (
      λ yes. absurd cc,
      λ take. absurd (c.note_parent.ensures.breach (walked_to d c.loop-next.invariant.done)
          (climb_at c.loop-next.lists c.loop-next.invariant.links d c.loop-next.invariant.done c.in-Some.place pass (c.loop-next.invariant.walked d can)) c.if-not-note_parent.true take),
    )

pub returns-then-not-note_parent-clause-count : goal.returns-then-not-note_parent-clause-count
returns-then-not-note_parent-clause-count g c = λ d can.
    let pass = subst (IsPassing c.loop-next.invariant.done c.loop-next.lists.marked) c.in-Some.is c.loop-next.invariant.pass in
    let is = c.loop-next.invariant.walked d can in
    let few = few_marked c.loop-next.lists d.marks _ d.tree c.loop-next.invariant.links is.kept is.told is.walked is.marks is.alternates (pass_seen _ _ _ pass) in
    subst (λ (z : Links). length z.marked ≤ 4 * hits_in d.marks d.tree) (sym (c.note_parent.ensures.same c.if-not-note_parent.true)) few

pub next_marked-next-requires : goal.next_marked-next-requires
next_marked-next-requires g c =
    let pass = subst (IsPassing c.loop-next.invariant.done c.loop-next.lists.marked) c.in-Some.is c.loop-next.invariant.pass in
    let some = pass_marked _ _ _ pass in
    let longer = c.note_parent.ensures.longer in
    let e = ap (times c.in-Some.place) longer.1 in
    let f = times-append c.in-Some.place c.loop-next.lists.marked longer.0 in
    climb_marked c.note_parent.new.lists c.note_parent.ensures.links c.in-Some.place (omega arith)

pub loop-next-smaller : goal.loop-next-smaller
loop-next-smaller g c =
    let ok = c.note_parent.ensures.links in
    let was = c.loop-next.invariant.links in
    let longer = c.note_parent.ensures.longer in
    let pass = subst (IsPassing c.loop-next.invariant.done c.loop-next.lists.marked) c.in-Some.is c.loop-next.invariant.pass in
    let more = pass_more _ _ _ pass c.note_parent.new.lists.marked longer.0 c.next_marked-next.result longer.1 (mark_once c.note_parent.new.lists ok c.in-Some.place) c.next_marked-next.ensures.next in
    let less = room_less _ _ c.note_parent.new.lists.marked c.in-Some.place c.next_marked-next.result (mark_once c.loop-next.lists was) (mark_once c.note_parent.new.lists ok) (few_places c.loop-next.lists was) pass more in
    subst (λ o. room_left c.note_parent.new.lists.marked c.next_marked-next.result < room_left c.loop-next.lists.marked o) (sym c.in-Some.is) less

pub loop-next-preserved : goal.loop-next-preserved
loop-next-preserved g c =
    let ok = c.note_parent.ensures.links in
    let longer = c.note_parent.ensures.longer in
    let still = c.note_parent.ensures.still in
    let was = c.loop-next.invariant.still in
    let pass = subst (IsPassing c.loop-next.invariant.done c.loop-next.lists.marked) c.in-Some.is c.loop-next.invariant.pass in
    record {
      done = c.loop-next.invariant.done ++ c.in-Some.place ∷ [];
      pass = pass_more _ _ _ pass c.note_parent.new.lists.marked longer.0 c.next_marked-next.result longer.1 (mark_once c.note_parent.new.lists ok c.in-Some.place) c.next_marked-next.ensures.next;
      walked = λ d can. climb_next c.note_parent.new.lists d c.loop-next.invariant.done c.in-Some.place
          (c.note_parent.ensures.walked (walked_to d c.loop-next.invariant.done)
          (climb_at c.loop-next.lists c.loop-next.invariant.links d c.loop-next.invariant.done c.in-Some.place pass (c.loop-next.invariant.walked d can)) c.if-not-note_parent.false);
      still = (still.0 ∙ was.0, still.1 ∙ was.1, still.2 ∙ was.2);
      steps = let e = length_more c.loop-next.invariant.done c.in-Some.place in let i = c.loop-next.invariant.steps in omega arith;
      links = ok;
    }

pub returns-clause-can_take : goal.returns-clause-can_take
returns-clause-can_take g c = λ d can.
    let all = pass_end _ _ _ c.in_default.is c.loop-next.invariant.pass in
    (λ yes. climb_takes c.loop-next.lists c.loop-next.invariant.links d c.loop-next.invariant.done all (c.loop-next.invariant.walked d can), λ take. refl)

pub returns-clause-told : goal.returns-clause-told
returns-clause-told g c = λ d can yes.
    climb_told c.loop-next.lists d c.loop-next.invariant.done (pass_end _ _ _ c.in_default.is c.loop-next.invariant.pass) (c.loop-next.invariant.walked d can)

pub returns-clause-count : goal.returns-clause-count
returns-clause-count g c = λ d can.
    let all = pass_end _ _ _ c.in_default.is c.loop-next.invariant.pass in
    let is = c.loop-next.invariant.walked d can in
    few_marked c.loop-next.lists d.marks _ d.tree c.loop-next.invariant.links is.kept is.told is.walked is.marks is.alternates (λ p. let e = ap (times p) all in omega arith)
