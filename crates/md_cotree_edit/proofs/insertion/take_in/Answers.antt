use Rattle.std.proofs.Common.{◌≤◌, ◌*◌, length, arith}
use Rattle.md_cotree_edit.specs.Marks.{hits_in}
use Rattle.md_cotree_edit.proofs.Insertions.NewLeaf.{few_told, taken_none, tree_at, can_settle}
use Rattle.md_cotree_edit.proofs.insertion.take_in.Goals as goal

pub returns-then-none-clause-taken : goal.returns-then-none-clause-taken
returns-then-none-clause-taken g c = λ d can told.
    taken_none d.marks can.climb.marks d.tree can.climb.alternates (told.0 c.if-none.true) c.over_root.new.lists c.over_root.new.root c.over_root.result c.args.x
    (c.over_root.ensures.tree d.tree can.climb.kept (tree_at c.args.lists.now c.args.root.now c.args.x d can c.args.top c.requires.top))

pub returns-then-none-clause-steps : goal.returns-then-none-clause-steps
returns-then-none-clause-steps g c = λ d can told.
    let few : length c.args.lists.now.marked ≤ 4 * hits_in d.marks d.tree = few_told c.args.lists.now c.args.root.now c.args.x d can c.requires.links in
    let steps = c.over_root.ensures.steps in
    omega arith

pub settle-requires-clause-tree : goal.settle-requires-clause-tree
settle-requires-clause-tree g c =
    let d = c.requires.tree.0 in
    let can = c.requires.tree.1 in
    let told = c.requires.tree.2 in
    (d, can_settle c.args.lists.now c.args.root.now c.args.x d can c.args.none c.if-none.false told)

pub returns-clause-taken : goal.returns-clause-taken
returns-clause-taken g c = λ d can told. c.settle.ensures.taken d (can_settle c.args.lists.now c.args.root.now c.args.x d can c.args.none c.if-none.false told)

pub returns-clause-can_take : goal.returns-clause-can_take
returns-clause-can_take g c = λ d can told. c.settle.ensures.can_take d (can_settle c.args.lists.now c.args.root.now c.args.x d can c.args.none c.if-none.false told)

pub returns-clause-steps : goal.returns-clause-steps
returns-clause-steps g c = λ d can told.
    let steps = c.settle.ensures.steps d (can_settle c.args.lists.now c.args.root.now c.args.x d can c.args.none c.if-none.false told) in
    omega arith
