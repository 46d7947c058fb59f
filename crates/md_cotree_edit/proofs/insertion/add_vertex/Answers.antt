use Rattle.std.proofs.lemmas.Bool.{false≢true}
use Rattle.std.proofs.lemmas.Result.{on_ok_weaker}
use Rattle.md_cotree_edit.proofs.Insertions.NewVertex.{err_of_not_ok, first_done, old_tree, can_grow, grow_done, refused_path, done_no_path, all_leaves}
use Rattle.md_cotree_edit.proofs.insertion.add_vertex.Goals as goal

pub returns-in-None-clause-done : goal.returns-in-None-clause-done
returns-in-None-clause-done g c = λ h den. first_done c.args.tree.now c.args.x c.args.neighbours.now c.requires c.in-None.is c.plant.new.tree c.plant.ensures.done h den

pub returns-in-None-clause-refused : goal.returns-in-None-clause-refused
returns-in-None-clause-refused g c = λ h den. (
  (λ e. absurd (false≢true e)),
  (λ path. absurd (done_no_path c.plant.new.tree h c.args.x c.args.neighbours.now (first_done c.args.tree.now c.args.x c.args.neighbours.now c.requires c.in-None.is c.plant.new.tree c.plant.ensures.done h den) path)),
)

pub grow-requires-clause-tree : goal.grow-requires-clause-tree
grow-requires-clause-tree g c = (
  old_tree c.args.tree.now c.args.x c.args.neighbours.now c.requires c.in-Some.top c.in-Some.is,
  can_grow c.args.tree.now c.args.x c.args.neighbours.now c.requires c.in-Some.top c.in-Some.is,
)

pub returns-in-Some-clause-done : goal.returns-in-Some-clause-done
returns-in-Some-clause-done g c = λ h den.
    on_ok_weaker c.grow.result (λ is. grow_done c.args.tree.now c.args.x c.args.neighbours.now c.requires c.in-Some.top c.in-Some.is c.grow.new.tree is h den)
    (c.grow.ensures.done (old_tree c.args.tree.now c.args.x c.args.neighbours.now c.requires c.in-Some.top c.in-Some.is) (can_grow c.args.tree.now c.args.x c.args.neighbours.now c.requires c.in-Some.top c.in-Some.is))

pub returns-in-Some-clause-refused : goal.returns-in-Some-clause-refused
returns-in-Some-clause-refused g c = λ h den.
    let t = old_tree c.args.tree.now c.args.x c.args.neighbours.now c.requires c.in-Some.top c.in-Some.is in
    let can = can_grow c.args.tree.now c.args.x c.args.neighbours.now c.requires c.in-Some.top c.in-Some.is in (
      (λ err. refused_path c.args.tree.now c.args.x c.args.neighbours.now c.requires c.in-Some.top c.in-Some.is (c.grow.ensures.refused t can err) h den),
      (λ path. err_of_not_ok c.grow.result
          (on_ok_weaker c.grow.result (λ is. done_no_path c.grow.new.tree h c.args.x c.args.neighbours.now (grow_done c.args.tree.now c.args.x c.args.neighbours.now c.requires c.in-Some.top c.in-Some.is c.grow.new.tree is h den) path)
          (c.grow.ensures.done t can))),
    )

pub returns-in-Some-clause-bound_all : goal.returns-in-Some-clause-bound_all
returns-in-Some-clause-bound_all g c = λ h den all.
    c.grow.ensures.bound_all (all_leaves c.args.tree.now c.args.x c.args.neighbours.now c.requires c.in-Some.top c.in-Some.is h den all)
