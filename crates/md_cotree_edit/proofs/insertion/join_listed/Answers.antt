use Rattle.std.proofs.Common.{refl, subst, arith}
use Rattle.std.specs.Prelude.{IfSome}
use Rattle.md_graph.specs.Linked.{times}
use Rattle.md_cotree_edit.specs.Marks.{IsLinkedIn}
use Rattle.md_cotree_edit.proofs.Marks.OnlyMarksDiffer.{still_trans}
use Rattle.md_cotree_edit.proofs.Insertions.NewVertex.{decided_none, grow_marks, grow_view, grow_take, grow_fits, grow_none, grow_bound, grow_same, marked_room, grown}
use Rattle.md_cotree_edit.proofs.insertion.join_listed.Goals as goal

pub mark_all-requires-clause-tree : goal.mark_all-requires-clause-tree
mark_all-requires-clause-tree g c =
    let t = c.requires.tree in
    (t.0, grow_marks c.args.tree.now c.args.x c.args.neighbours.now t.0 t.1 c.spare-spare.ensures.links c.deref.result.now c.deref.ensures.value)

pub take_in-requires-clause-room : goal.take_in-requires-clause-room
take_in-requires-clause-room g c =
    let t = c.requires.tree in
    let links = c.spare-spare.ensures.links in
    let told = c.mark_all.ensures.told t.0 (grow_marks c.args.tree.now c.args.x c.args.neighbours.now t.0 t.1 links c.deref.result.now c.deref.ensures.value) in
    marked_room c.args.tree.now c.args.x c.args.neighbours.now t.0 t.1 links c.mark_all.new.lists c.mark_all.ensures.still told

pub take_in-requires-clause-tree : goal.take_in-requires-clause-tree
take_in-requires-clause-tree g c =
    let t = c.requires.tree in
    let links = c.spare-spare.ensures.links in
    let told = c.mark_all.ensures.told t.0 (grow_marks c.args.tree.now c.args.x c.args.neighbours.now t.0 t.1 links c.deref.result.now c.deref.ensures.value) in (
      grow_view c.args.tree.now c.args.x c.args.neighbours.now t.0 t.1 links c.mark_all.new.lists c.mark_all.ensures.still told,
      grow_take c.args.tree.now c.args.x c.args.neighbours.now t.0 t.1 links c.mark_all.new.lists c.mark_all.ensures.still told c.requires.not_all,
      grow_none c.args.tree.now c.args.x c.args.neighbours.now t.0 t.1 links c.is_empty-none.result (decided_none c.is_empty-none.result c.args.neighbours.now c.is_empty-none.ensures),
    )

pub returns-in_default-clause-refused : goal.returns-in_default-clause-refused
returns-in_default-clause-refused g c = λ t can err.
    let links = c.spare-spare.ensures.links in
    let told = c.mark_all.ensures.told t (grow_marks c.args.tree.now c.args.x c.args.neighbours.now t can links c.deref.result.now c.deref.ensures.value) in
    c.take_in.ensures.can_take (grow_view c.args.tree.now c.args.x c.args.neighbours.now t can links c.mark_all.new.lists c.mark_all.ensures.still told)
    (grow_take c.args.tree.now c.args.x c.args.neighbours.now t can links c.mark_all.new.lists c.mark_all.ensures.still told c.requires.not_all)
    (grow_none c.args.tree.now c.args.x c.args.neighbours.now t can links c.is_empty-none.result (decided_none c.is_empty-none.result c.args.neighbours.now c.is_empty-none.ensures)) c.in_default.is

pub returns-in_default-clause-same : goal.returns-in_default-clause-same
returns-in_default-clause-same g c =
    let t = c.requires.tree in
    let links = c.spare-spare.ensures.links in
    grow_same c.args.tree.now c.args.x c.args.neighbours.now t.0 t.1 links c.take_in.new.lists c.take_in.new.root c.take_in.ensures.links
    (still_trans c.args.tree.now.lists c.mark_all.new.lists c.take_in.new.lists c.mark_all.ensures.still (c.take_in.ensures.still c.in_default.is)) c.take_in.ensures.unmarked (c.take_in.ensures.root c.in_default.is)

pub returns-in_default-clause-bound : goal.returns-in_default-clause-bound
returns-in_default-clause-bound g c =
    let t = c.requires.tree in
    let links = c.spare-spare.ensures.links in
    let told = c.mark_all.ensures.told t.0 (grow_marks c.args.tree.now c.args.x c.args.neighbours.now t.0 t.1 links c.deref.result.now c.deref.ensures.value) in
    grow_bound c.args.tree.now c.args.x c.args.neighbours.now t.0 t.1 links c.mark_all.new.lists c.mark_all.ensures.still told c.requires.not_all c.is_empty-none.result (decided_none c.is_empty-none.result c.args.neighbours.now c.is_empty-none.ensures) _ _ _ c.mark_all.ensures.steps c.take_in.ensures.steps

pub keep_place-requires-clause-entries : goal.keep_place-requires-clause-entries
keep_place-requires-clause-entries g c = c.requires.tree.1.kept.entries

pub keep_place-requires-clause-name : goal.keep_place-requires-clause-name
keep_place-requires-clause-name g c = c.requires.tree.1.within

pub overflow_add-tree : goal.overflow_add-tree
overflow_add-tree g c =
    let t = c.requires.tree in
    let low = grow_fits c.args.tree.now c.args.x c.args.neighbours.now t.0 t.1 c.spare-spare.ensures.links in
    omega arith

pub returns-clause-done : goal.returns-clause-done
returns-clause-done g c = λ t can.
    let links = c.spare-spare.ensures.links in
    let told = c.mark_all.ensures.told t (grow_marks c.args.tree.now c.args.x c.args.neighbours.now t can links c.deref.result.now c.deref.ensures.value) in
    let taken =
    c.take_in.ensures.taken (grow_view c.args.tree.now c.args.x c.args.neighbours.now t can links c.mark_all.new.lists c.mark_all.ensures.still told)
    (grow_take c.args.tree.now c.args.x c.args.neighbours.now t can links c.mark_all.new.lists c.mark_all.ensures.still told c.requires.not_all)
    (grow_none c.args.tree.now c.args.x c.args.neighbours.now t can links c.is_empty-none.result (decided_none c.is_empty-none.result c.args.neighbours.now c.is_empty-none.ensures)) in
    let one = subst (λ o. IfSome o (λ leaf. IsLinkedIn c.take_in.new.lists c.take_in.new.root (λ v. times v c.args.neighbours.now) c.args.x leaf t)) c.in-Some.is taken in
    grown c.args.tree.now c.args.x c.args.neighbours.now t can links _ c.in-Some.leaf c.keep_place.ensures.kept c.keep_place.ensures.entries refl c.take_in.ensures.links c.take_in.ensures.unmarked one

pub returns-clause-bound : goal.returns-clause-bound
returns-clause-bound g c =
    let t = c.requires.tree in
    let links = c.spare-spare.ensures.links in
    let told = c.mark_all.ensures.told t.0 (grow_marks c.args.tree.now c.args.x c.args.neighbours.now t.0 t.1 links c.deref.result.now c.deref.ensures.value) in
    grow_bound c.args.tree.now c.args.x c.args.neighbours.now t.0 t.1 links c.mark_all.new.lists c.mark_all.ensures.still told c.requires.not_all c.is_empty-none.result (decided_none c.is_empty-none.result c.args.neighbours.now c.is_empty-none.ensures) _ _ _ c.mark_all.ensures.steps c.take_in.ensures.steps
