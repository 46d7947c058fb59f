use Rattle.std.proofs.Common.{◌+◌, ◌≤◌, rules, subst, arith}
use Rattle.md_graph.specs.PlainGraph.{adjacent}
use Rattle.md_tree.specs.Plain.{plain}
use Rattle.md_local.specs.Growing.{own_steps, names_between, IsGrownFrom, IsGrownBelow}
use Rattle.md_local.specs.declared.walking.Turn.{Turn}
use Rattle.md_local.specs.declared.growing.Below.{Below}
use Rattle.md_local.specs.declared.growing.Grown.{Grown}
use Rattle.md_local.specs.Walks.{HasTurned, steps_ahead, still_ahead}
use Rattle.md_local.proofs.Rebuilt.{old_whole, whole_grown, tree_grown, steps_begin, steps_few}
use Rattle.md_local.proofs.Ways.{way_begin}
use Rattle.md_local.proofs.rebuilding.rebuild.Goals as goal

pub loop-path-init : goal.loop-path-init
loop-path-init g c = record {
  way =
      way_begin (IsGrownBelow c.args.graph.now c.args.u c.args.v) (plain c.args.tree.now) _ c.in_ok-current.current c.new-path.ensures.items c.in_ok-current.ensures.tree c.in_ok-current.ensures.rest
      (c.in_ok-current.ensures.below c.args.graph.now c.args.u c.args.v);
  steps = steps_begin c.args.graph.now c.args.u c.args.v (plain c.args.tree.now) _ c.in_ok-current.current c.args.work.now c.new-path.ensures.items c.in_ok-current.ensures.tree c.in_ok-current.ensures.rest;
}

pub take_turn-requires : goal.take_turn-requires
take_turn-requires g c =
    let before = c.requires.tree in
    let old = old_whole c.args.graph.now c.args.u c.args.v (plain c.args.tree.now) before.0 c.vertices-vertices.ensures.graph before.1 before.2 in
    (search rules, (c.requires.left, (adjacent before.0, plain c.args.tree.now, old, c.loop-path.invariant.way)))

pub returns-in_err-next-clause-work : goal.returns-in_err-next-clause-work
returns-in_err-next-clause-work g c = λ before w edited is least.
    let few : c.take_turn.new.work ≤ c.args.work.now + names_between c.args.u c.args.v (plain c.args.tree.now) = (let p = c.take_turn.ensures.work in let q = c.loop-path.invariant.steps in omega arith) in
    steps_few c.args.graph.now c.args.u c.args.v (plain c.args.tree.now) before w c.args.work.now c.take_turn.new.work few edited.before is least

pub loop-path-preserved : goal.loop-path-preserved
loop-path-preserved g c =
    let own = own_steps c.args.u c.args.v in
    let rest : c.take_turn.new.work + steps_ahead own own c.take_turn.new.path.items c.in-Onward.next ≤ c.loop-path.work + steps_ahead own own c.loop-path.path.items c.loop-path.current =
    subst (λ (turn : Turn Below Grown). c.take_turn.new.work + still_ahead own own c.take_turn.new.path.items turn ≤ c.loop-path.work + steps_ahead own own c.loop-path.path.items c.loop-path.current) c.in-Onward.is
    c.in_ok-next.ensures.rest in
    let begun = c.loop-path.invariant.steps in
    record {
      way =
          subst (HasTurned (IsGrownBelow c.args.graph.now c.args.u c.args.v) (IsGrownFrom c.args.graph.now c.args.u c.args.v) (plain c.args.tree.now) c.take_turn.new.path.items) c.in-Onward.is
          (c.in_ok-next.ensures.turn (plain c.args.tree.now) c.loop-path.invariant.way);
      steps = omega arith;
    }

pub whole_tree-requires : goal.whole_tree-requires
whole_tree-requires g c =
    let before = c.requires.tree in
    let grown : IsGrownFrom c.args.graph.now c.args.u c.args.v (plain c.args.tree.now) c.in-End.grown =
    subst (HasTurned (IsGrownBelow c.args.graph.now c.args.u c.args.v) (IsGrownFrom c.args.graph.now c.args.u c.args.v) (plain c.args.tree.now) c.take_turn.new.path.items) c.in-End.is
    (c.in_ok-next.ensures.turn (plain c.args.tree.now) c.loop-path.invariant.way) in
    whole_grown c.args.graph.now c.args.u c.args.v (plain c.args.tree.now) before.0 c.in-End.grown before.1 before.2 c.requires.left c.requires.right grown

pub returns-in-End-clause-tree : goal.returns-in-End-clause-tree
returns-in-End-clause-tree g c =
    let before = c.requires.tree in
    let grown : IsGrownFrom c.args.graph.now c.args.u c.args.v (plain c.args.tree.now) c.in-End.grown =
    subst (HasTurned (IsGrownBelow c.args.graph.now c.args.u c.args.v) (IsGrownFrom c.args.graph.now c.args.u c.args.v) (plain c.args.tree.now) c.take_turn.new.path.items) c.in-End.is
    (c.in_ok-next.ensures.turn (plain c.args.tree.now) c.loop-path.invariant.way) in
    tree_grown c.args.graph.now c.args.u c.args.v (plain c.args.tree.now) before.0 c.in-End.grown c.whole_tree.result c.vertices-vertices.ensures.graph before.1 before.2 grown c.whole_tree.ensures

pub returns-in-End-clause-work : goal.returns-in-End-clause-work
returns-in-End-clause-work g c = λ before w edited is least.
    let few : c.take_turn.new.work ≤ c.args.work.now + names_between c.args.u c.args.v (plain c.args.tree.now) = (let p = c.in_ok-next.ensures.work in let q = c.loop-path.invariant.steps in omega arith) in
    steps_few c.args.graph.now c.args.u c.args.v (plain c.args.tree.now) before w c.args.work.now c.take_turn.new.work few edited.before is least
