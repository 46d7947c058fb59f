use Rattle.std.proofs.Common.{◌<◌, ◌∷◌, [], ◌++◌, sym, ap, subst, inl, inr, arith, append-nil}
use Rattle.std.proofs.lemmas.Bool.{cases_eq}
use Rattle.md_graph.specs.Linked.{times}
use Rattle.md_lists.proofs.LinkLaws.{mark_once, few_marked}
use Rattle.md_cotree_edit.proofs.Climbs.LowestHasNoNote.{are_noted}
use Rattle.md_cotree_edit.proofs.Climbs.WalkedList.{IsPassing, pass_marked, pass_more, pass_end, room_left, room_less, marked_live, noted_more, length_more}
use Rattle.md_cotree_edit.proofs.climbing.lowest.Goals as goal

pub note-requires : goal.note-requires
note-requires g c =
    let pass = subst (IsPassing c.loop-next.invariant.done c.args.lists.now.marked) c.in-Some.is c.loop-next.invariant.pass in
    marked_live c.args.lists.now c.requires.links c.in-Some.place (pass_marked _ _ _ pass)

pub returns-then-note-eq0-clause-lowest : goal.returns-then-note-eq0-clause-lowest
returns-then-note-eq0-clause-lowest g c = λ d is alternates.
    let pass = subst (IsPassing c.loop-next.invariant.done c.args.lists.now.marked) c.in-Some.is c.loop-next.invariant.pass in
    let noted = are_noted c.args.lists.now d c.requires.links is alternates in
    elim (cases_eq d.place c.in-Some.place) [
      | inl same ↦ sym same
      | inr other ↦
          absurd (let some = noted.others c.in-Some.place (pass_marked _ _ _ pass) other in let e = c.note.ensures.note in let f = c.if-note-eq0.true in omega arith)
    ]

pub loop-next-smaller : goal.loop-next-smaller
loop-next-smaller g c =
    let ok = c.requires.links in
    let pass = subst (IsPassing c.loop-next.invariant.done c.args.lists.now.marked) c.in-Some.is c.loop-next.invariant.pass in
    let more = pass_more _ _ _ pass c.args.lists.now.marked [] c.next_marked-next.result (sym (append-nil c.args.lists.now.marked)) (mark_once c.args.lists.now ok c.in-Some.place) c.next_marked-next.ensures.next in
    let less = room_less _ _ c.args.lists.now.marked c.in-Some.place c.next_marked-next.result (mark_once c.args.lists.now ok) (mark_once c.args.lists.now ok) (few_marked c.args.lists.now ok) pass more in
    subst (λ o. room_left c.args.lists.now.marked c.next_marked-next.result < room_left c.args.lists.now.marked o) (sym c.in-Some.is) less

pub loop-next-preserved : goal.loop-next-preserved
loop-next-preserved g c =
    let ok = c.requires.links in
    let pass = subst (IsPassing c.loop-next.invariant.done c.args.lists.now.marked) c.in-Some.is c.loop-next.invariant.pass in
    record {
      done = c.loop-next.invariant.done ++ c.in-Some.place ∷ [];
      pass = pass_more _ _ _ pass c.args.lists.now.marked [] c.next_marked-next.result (sym (append-nil c.args.lists.now.marked)) (mark_once c.args.lists.now ok c.in-Some.place) c.next_marked-next.ensures.next;
      noted = noted_more c.args.lists.now _ _ c.loop-next.invariant.noted (let e = c.note.ensures.note in let f = c.if-note-eq0.false in omega arith);
      steps = let e = length_more c.loop-next.invariant.done c.in-Some.place in let i = c.loop-next.invariant.steps in omega arith;
    }

pub unreachable-requires : goal.unreachable-requires
unreachable-requires g c =
    let d = c.requires.tree.0 in
    let noted = are_noted c.args.lists.now d c.requires.links c.requires.tree.1 c.requires.tree.2 in
    let all = pass_end _ _ _ c.in_default.is c.loop-next.invariant.pass in
    let e = ap (times d.place) all in
    let some = noted.marked in
    let none = noted.none in
    let here = c.loop-next.invariant.noted d.place (omega arith) in
    omega arith
