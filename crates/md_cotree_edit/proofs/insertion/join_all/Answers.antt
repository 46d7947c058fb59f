use Rattle.std.proofs.Common.{◌≡◌, length, refl, ap, arith}
use Rattle.md_cotree_edit.proofs.Insertions.NewVertex.{kept_lists, grow_room, grow_fits, grow_top, grow_joined, grown}
use Rattle.md_cotree_edit.proofs.insertion.join_all.Goals as goal

pub over_root-leaf-requires-clause-room : goal.over_root-leaf-requires-clause-room
over_root-leaf-requires-clause-room g c =
    let r = c.requires.tree in
    let room = grow_room c.args.tree.now c.args.x r.0 r.1 r.2 c.spare-spare.ensures.links in
    omega arith

pub over_root-leaf-requires-clause-tree : goal.over_root-leaf-requires-clause-tree
over_root-leaf-requires-clause-tree g c =
    let r = c.requires.tree in
    let links = c.spare-spare.ensures.links in
    (r.1, kept_lists c.args.tree.now c.args.x r.0 r.1 r.2 links, grow_top c.args.tree.now c.args.x r.0 r.1 r.2 links c.args.top c.requires.top)

pub keep_place-requires-clause-entries : goal.keep_place-requires-clause-entries
keep_place-requires-clause-entries g c = c.requires.tree.2.kept.entries

pub keep_place-requires-clause-name : goal.keep_place-requires-clause-name
keep_place-requires-clause-name g c = c.requires.tree.2.within

pub overflow_add-tree : goal.overflow_add-tree
overflow_add-tree g c =
    let r = c.requires.tree in
    let low = grow_fits c.args.tree.now c.args.x r.0 r.1 r.2 c.spare-spare.ensures.links in
    omega arith

pub returns-clause-done : goal.returns-clause-done
returns-clause-done g c = λ ns t can all.
    let links = c.spare-spare.ensures.links in
    let beside =
    c.over_root-leaf.ensures.tree t (kept_lists c.args.tree.now c.args.x ns t can links) (grow_top c.args.tree.now c.args.x ns t can links c.args.top c.requires.top) in
    grown c.args.tree.now c.args.x ns t can links _ c.over_root-leaf.result c.keep_place.ensures.kept c.keep_place.ensures.entries refl c.over_root-leaf.ensures.links c.over_root-leaf.ensures.unmarked
    (grow_joined c.args.tree.now c.args.x ns t can links all c.over_root-leaf.new.lists c.over_root-leaf.new.root c.over_root-leaf.result beside)

pub returns-clause-steps : goal.returns-clause-steps
returns-clause-steps g c =
    let none : length c.args.tree.now.lists.marked ≡ 0 = ap length c.requires.tree.2.kept.unmarked in
    let steps = c.over_root-leaf.ensures.steps in
    omega arith
