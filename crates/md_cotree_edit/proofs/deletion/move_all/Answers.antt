use Rattle.std.proofs.Common.{◌∙◌, arith}
use Rattle.md_cotree_edit.proofs.Deletions.MovedChildren.{no_some, move_live, move_end, move_view, move_can, move_next, move_less}
use Rattle.md_cotree_edit.proofs.deletion.move_all.Goals as goal

pub first_child-requires : goal.first_child-requires
first_child-requires g c =
    let i = c.loop-child.invariant in
    let d = c.requires.trees in
    move_live c.loop-child.lists i.links c.args.from c.args.to d.0 (i.moving d.0 d.1)

pub pass-requires-clause-trees : goal.pass-requires-clause-trees
pass-requires-clause-trees g c =
    let i = c.loop-child.invariant in
    let d = c.requires.trees in (
      move_view c.loop-child.lists i.links c.args.from c.args.to d.0 (i.moving d.0 d.1) c.in-Some.child c.in-Some.ensures.first,
      move_can c.loop-child.lists i.links c.args.from c.args.to d.0 (i.moving d.0 d.1) c.in-Some.child c.in-Some.ensures.first,
    )

pub loop-child-smaller : goal.loop-child-smaller
loop-child-smaller g c =
    let i = c.loop-child.invariant in
    let d = c.requires.trees in
    let view = move_view c.loop-child.lists i.links c.args.from c.args.to d.0 (i.moving d.0 d.1) c.in-Some.child c.in-Some.ensures.first in
    let can = move_can c.loop-child.lists i.links c.args.from c.args.to d.0 (i.moving d.0 d.1) c.in-Some.child c.in-Some.ensures.first in
    let less = move_less c.loop-child.lists i.links c.args.from c.args.to d.0 (i.moving d.0 d.1) c.in-Some.child c.in-Some.ensures.first
    c.pass.new.lists (c.pass.ensures.trees view can) c.pass.ensures.links in
    omega arith

pub loop-child-preserved : goal.loop-child-preserved
loop-child-preserved g c =
    let i = c.loop-child.invariant in
    record {
      links = c.pass.ensures.links;
      marked = c.pass.ensures.marked ∙ i.marked;
      moving = λ d can0.
          let view = move_view c.loop-child.lists i.links c.args.from c.args.to d (i.moving d can0) c.in-Some.child c.in-Some.ensures.first in
          let can = move_can c.loop-child.lists i.links c.args.from c.args.to d (i.moving d can0) c.in-Some.child c.in-Some.ensures.first in
          move_next c.loop-child.lists i.links c.args.from c.args.to d (i.moving d can0) c.in-Some.child c.in-Some.ensures.first
          c.pass.new.lists (c.pass.ensures.trees view can);
      steps =
          let d = c.requires.trees in
          let view = move_view c.loop-child.lists i.links c.args.from c.args.to d.0 (i.moving d.0 d.1) c.in-Some.child c.in-Some.ensures.first in
          let can = move_can c.loop-child.lists i.links c.args.from c.args.to d.0 (i.moving d.0 d.1) c.in-Some.child c.in-Some.ensures.first in
          let less = move_less c.loop-child.lists i.links c.args.from c.args.to d.0 (i.moving d.0 d.1) c.in-Some.child c.in-Some.ensures.first
          c.pass.new.lists (c.pass.ensures.trees view can) c.pass.ensures.links in
          let a = c.pass.ensures.steps in
          let b = c.in-Some.ensures.step in
          let e = i.steps in
          omega arith;
    }

pub returns-clause-trees : goal.returns-clause-trees
returns-clause-trees g c =
    let i = c.loop-child.invariant in
    λ d can. move_end c.loop-child.lists i.links c.args.from c.args.to d (i.moving d can) (no_some c.first_child.result _ c.first_child.ensures.first c.in_default.not-Some)
