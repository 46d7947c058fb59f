use Rattle.std.proofs.Common.{not, rules}
use Rattle.md_graph.proofs.Search.{turn_falls, idle_falls, back_shorter}
use Rattle.md_graph.proofs.SetLemmas.{rest_apart_from, union_along}
use Rattle.md_modules.specs.Seen.{seen_as}
use Rattle.md_modules.proofs.Turns.{reach_more, reach_passed, seen_otherwise, not_seen}
use Rattle.md_modules.proofs.component_search.turn.Goals as goal

pub sees-requires : goal.sees-requires
sees-requires g c = (search rules, (search rules, (c.requires.vertex, rest_apart_from c.args.left.now c.args.todo.now c.remove.new.self c.args.w c.remove.ensures.changed c.requires.apart)))

pub returns-then-sees-clause-kept : goal.returns-then-sees-clause-kept
returns-then-sees-clause-kept g c x is =
    reach_more c.args.within.now c.args.left.now c.args.todo.now (seen_as c.args.graph.now c.args.w (not c.args.value) c.args.left.now) c.move_seen.new.left c.move_seen.new.todo c.args.value x c.args.w
    is c.requires.member (seen_otherwise c.vertices-vertices.ensures.graph c.args.w c.args.value c.args.left.now) c.move_seen.ensures.left (union_along _ _ _ _ c.remove.ensures.changed c.move_seen.ensures.todo)

pub returns-then-sees-clause-fewer : goal.returns-then-sees-clause-fewer
returns-then-sees-clause-fewer g c =
    turn_falls c.args.left.now c.args.todo.now (seen_as c.args.graph.now c.args.w (not c.args.value) c.args.left.now) c.move_seen.new.left c.move_seen.new.todo c.args.w c.requires.member
    (λ y h. ((seen_otherwise c.vertices-vertices.ensures.graph c.args.w c.args.value c.args.left.now).1 y h).0) c.move_seen.ensures.left (union_along _ _ _ _ c.remove.ensures.changed c.move_seen.ensures.todo)

pub returns-then-count-clause-kept : goal.returns-then-count-clause-kept
returns-then-count-clause-kept g c x is =
    c.look_back.ensures.kept x
    (reach_passed c.args.within.now c.args.left.now c.args.todo.now c.remove.new.self c.args.value x c.args.w is c.remove.ensures.changed
    (not_seen c.args.graph.now c.args.left.now c.args.w c.args.value c.sees.result c.if-sees.false c.sees.ensures))

pub returns-then-count-clause-fewer : goal.returns-then-count-clause-fewer
returns-then-count-clause-fewer g c =
    back_shorter c.args.left.now c.args.todo.now c.look_back.new.left c.look_back.new.todo c.args.w c.requires.member c.look_back.ensures.fewer

pub returns-else-count-clause-kept : goal.returns-else-count-clause-kept
returns-else-count-clause-kept g c x is =
    reach_passed c.args.within.now c.args.left.now c.args.todo.now c.remove.new.self c.args.value x c.args.w is c.remove.ensures.changed
    (not_seen c.args.graph.now c.args.left.now c.args.w c.args.value c.sees.result c.if-sees.false c.sees.ensures)

pub returns-else-count-clause-fewer : goal.returns-else-count-clause-fewer
returns-else-count-clause-fewer g c = idle_falls c.args.left.now c.args.todo.now c.remove.new.self c.args.w c.requires.member c.remove.ensures.changed
