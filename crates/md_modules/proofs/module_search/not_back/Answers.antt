use Rattle.std.proofs.Common.{◌∙◌, ap, not}
use Rattle.md_graph.proofs.Search.{turn_falls}
use Rattle.md_graph.proofs.SetLemmas.{taken_whole, empty_lacks, union_along}
use Rattle.std.specs.FinSet.{empty, remove, insert}
use Rattle.md_modules.specs.Seen.{seen_as}
use Rattle.md_modules.proofs.Growth.{back_end}
use Rattle.md_modules.proofs.Turns.{back_begin, back_more, back_stop, back_names, seen_otherwise}
use Rattle.md_modules.proofs.module_search.not_back.Goals as goal

pub loop-b-init : goal.loop-b-init
loop-b-init g c =
    back_begin c.args.within.now c.remove-2.new.self c.insert.new.self c.args.v c.args.j c.requires.differ c.requires.whole
    (c.remove-2.ensures.changed ∙ ap (λ s. remove s c.args.v) (c.remove.ensures.changed ∙ ap (λ s. remove s c.args.j) (taken_whole c.args.within.now c.clear.new.self c.union_with.new.self c.clear.ensures.changed c.union_with.ensures.changed))) (c.insert.ensures.changed ∙ ap (λ s. insert s c.args.j) c.none-todo.ensures.value)

pub loop-b-smaller : goal.loop-b-smaller
loop-b-smaller g c =
    turn_falls c.loop-b.left c.loop-b.todo (seen_as c.args.graph.now c.in-Some.b (not c.has_edge.result) c.loop-b.left) c.move_seen.new.left c.move_seen.new.todo c.in-Some.b c.in-Some.ensures.found.0
    (λ y h. ((seen_otherwise c.vertices-vertices.ensures.graph c.in-Some.b c.has_edge.result c.loop-b.left).1 y h).0) c.move_seen.ensures.left (union_along _ _ _ _ c.remove-in-Some.ensures.changed c.move_seen.ensures.todo)

pub loop-b-preserved : goal.loop-b-preserved
loop-b-preserved g c =
    back_more c.args.within.now c.loop-b.left c.loop-b.todo (seen_as c.args.graph.now c.in-Some.b (not c.has_edge.result) c.loop-b.left) c.move_seen.new.left c.move_seen.new.todo c.args.v c.args.j c.in-Some.b c.has_edge.result
    c.loop-b.invariant c.in-Some.ensures.found.0 c.has_edge.ensures.value (seen_otherwise c.vertices-vertices.ensures.graph c.in-Some.b c.has_edge.result c.loop-b.left) c.move_seen.ensures.left (union_along _ _ _ _ c.remove-in-Some.ensures.changed c.move_seen.ensures.todo)

pub returns-clause-part : goal.returns-clause-part
returns-clause-part g c = (back_stop c.args.within.now c.loop-b.left c.loop-b.todo c.insert-2.new.self c.args.v c.args.j c.requires.differ c.loop-b.invariant c.in_default.ensures.none c.insert-2.ensures.changed).0.inside

pub returns-clause-names : goal.returns-clause-names
returns-clause-names g c =
    back_names c.args.within.now c.insert-2.new.self empty c.args.v c.args.j
    (back_stop c.args.within.now c.loop-b.left c.loop-b.todo c.insert-2.new.self c.args.v c.args.j c.requires.differ c.loop-b.invariant c.in_default.ensures.none c.insert-2.ensures.changed) c.requires.whole empty_lacks

pub returns-clause-rest : goal.returns-clause-rest
returns-clause-rest g c =
    back_end c.args.within.now c.insert-2.new.self empty c.args.v
    (back_stop c.args.within.now c.loop-b.left c.loop-b.todo c.insert-2.new.self c.args.v c.args.j c.requires.differ c.loop-b.invariant c.in_default.ensures.none c.insert-2.ensures.changed).0 empty_lacks

pub returns-clause-fixed : goal.returns-clause-fixed
returns-clause-fixed g c = (back_stop c.args.within.now c.loop-b.left c.loop-b.todo c.insert-2.new.self c.args.v c.args.j c.requires.differ c.loop-b.invariant c.in_default.ensures.none c.insert-2.ensures.changed).0.start
