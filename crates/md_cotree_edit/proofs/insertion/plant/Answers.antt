use Rattle.std.proofs.Common.{refl, arith}
use Rattle.md_cotree_edit.proofs.Insertions.NewVertex.{first_room, first_fits, planted}
use Rattle.md_cotree_edit.proofs.insertion.plant.Goals as goal

pub make-leaf-requires : goal.make-leaf-requires
make-leaf-requires g c = first_room c.args.tree.now c.requires.0 c.spare-spare.ensures.links

pub keep_place-requires-clause-entries : goal.keep_place-requires-clause-entries
keep_place-requires-clause-entries g c = c.requires.0.entries

pub keep_place-requires-clause-name : goal.keep_place-requires-clause-name
keep_place-requires-clause-name g c = c.requires.1

pub overflow_add-tree : goal.overflow_add-tree
overflow_add-tree g c = let low = first_fits c.args.tree.now c.requires.0 in omega arith

pub returns-clause-done : goal.returns-clause-done
returns-clause-done g c =
    planted c.args.x c.requires.1 c.args.tree.now _ c.requires.0 c.spare-spare.ensures.links c.make-leaf.result c.make-leaf.ensures.place c.make-leaf.ensures.inside c.make-leaf.ensures.made c.make-leaf.ensures.links c.keep_place.ensures.kept c.keep_place.ensures.entries refl refl
