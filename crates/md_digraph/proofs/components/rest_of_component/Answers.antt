use Rattle.std.proofs.Common.{◌∙◌, ap, rules}
use Rattle.md_graph.proofs.SetLemmas.{taken_whole}
use Rattle.std.specs.FinSet.{remove, insert}
use Rattle.md_modules.proofs.Turns.{reach_begin, reach_stop}
use Rattle.md_digraph.proofs.components.rest_of_component.Goals as goal

pub loop-w-init : goal.loop-w-init
loop-w-init g c =
    reach_begin c.args.within.now c.remove.new.self c.insert.new.self (c.args.both, c.args.both) c.args.x c.requires.member
    (c.remove.ensures.changed ∙ ap (λ s. remove s c.args.x) (taken_whole c.args.within.now c.clear.new.self c.union_with.new.self c.clear.ensures.changed c.union_with.ensures.changed)) (c.insert.ensures.changed ∙ ap (λ s. insert s c.args.x) c.none-todo.ensures.value)

pub turn-requires : goal.turn-requires
turn-requires g c = (
  search rules,
  (
    search rules,
    (
      c.in-Some.ensures.found.0,
      (
        c.requires.inside c.in-Some.w (c.loop-w.invariant.taken c.in-Some.w c.in-Some.ensures.found.0).0,
        λ y h. c.requires.inside y (c.loop-w.invariant.inside y h),
      ),
    ),
  ),
)

pub loop-w-preserved : goal.loop-w-preserved
loop-w-preserved g c = c.turn.ensures.kept c.args.x c.loop-w.invariant

pub returns-clause-taken : goal.returns-clause-taken
returns-clause-taken g c = reach_stop c.args.within.now c.loop-w.left c.loop-w.todo (c.args.both, c.args.both) c.args.x c.loop-w.invariant c.in_default.ensures.none
