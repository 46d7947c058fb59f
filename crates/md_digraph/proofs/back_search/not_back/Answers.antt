use Rattle.std.proofs.Common.{◌∙◌, ap, refl, rules}
use Rattle.md_graph.proofs.Search.{turn_falls}
use Rattle.md_graph.proofs.SetLemmas.{taken_whole, empty_lacks, union_along}
use Rattle.std.specs.FinSet.{empty, remove, insert}
use Rattle.md_digraph.specs.PlainDigraph.{has_arc_to}
use Rattle.md_digraph.specs.ArcColours.{between}
use Rattle.md_digraph.specs.ArcsSeen.{told_from}
use Rattle.md_modules.proofs.Growth.{back_end}
use Rattle.md_modules.proofs.Turns.{back_begin, back_more, back_stop, back_names}
use Rattle.md_digraph.proofs.BackTurns.{told_from_all}
use Rattle.md_digraph.proofs.back_search.not_back.Goals as goal

pub loop-b-init : goal.loop-b-init
loop-b-init g c =
    back_begin c.args.within.now c.remove-2.new.self c.insert.new.self c.args.v c.args.j c.requires.differ c.requires.whole
    (c.remove-2.ensures.changed ∙ ap (λ s. remove s c.args.v) (c.remove.ensures.changed ∙ ap (λ s. remove s c.args.j) (taken_whole c.args.within.now c.clear.new.self c.union_with.new.self c.clear.ensures.changed c.union_with.ensures.changed))) (c.insert.ensures.changed ∙ ap (λ s. insert s c.args.j) c.none-todo.ensures.value)

pub move_told-requires : goal.move_told-requires
move_told-requires g c = (search rules, (search rules, c.requires.inside c.in-Some.b (c.loop-b.invariant.going.taken c.in-Some.b c.in-Some.ensures.found.0).0))

pub loop-b-smaller : goal.loop-b-smaller
loop-b-smaller g c =
    turn_falls c.loop-b.left c.loop-b.todo (told_from c.args.graph.now c.in-Some.b c.args.v c.loop-b.left) c.move_told.new.left c.move_told.new.todo c.in-Some.b c.in-Some.ensures.found.0
    (λ y h. ((told_from_all c.vertices-vertices.ensures.digraph c.in-Some.b c.args.v c.loop-b.left).1 y h).0) c.move_told.ensures.left (union_along _ _ _ _ c.remove-in-Some.ensures.changed c.move_told.ensures.todo)

pub loop-b-preserved : goal.loop-b-preserved
loop-b-preserved g c =
    back_more c.args.within.now c.loop-b.left c.loop-b.todo (told_from c.args.graph.now c.in-Some.b c.args.v c.loop-b.left) c.move_told.new.left c.move_told.new.todo c.args.v c.args.j c.in-Some.b (between (has_arc_to c.args.graph.now) c.in-Some.b c.args.v)
    c.loop-b.invariant c.in-Some.ensures.found.0 refl (told_from_all c.vertices-vertices.ensures.digraph c.in-Some.b c.args.v c.loop-b.left) c.move_told.ensures.left (union_along _ _ _ _ c.remove-in-Some.ensures.changed c.move_told.ensures.todo)

pub returns-clause-part : goal.returns-clause-part
returns-clause-part g c = (back_stop c.args.within.now c.loop-b.left c.loop-b.todo c.insert-2.new.self c.args.v c.args.j c.requires.differ c.loop-b.invariant c.in_default.ensures.none c.insert-2.ensures.changed).0.inside

pub returns-clause-names : goal.returns-clause-names
returns-clause-names g c =
    back_names c.args.within.now c.insert-2.new.self empty c.args.v c.args.j
    (back_stop c.args.within.now c.loop-b.left c.loop-b.todo c.insert-2.new.self c.args.v c.args.j c.requires.differ c.loop-b.invariant c.in_default.ensures.none c.insert-2.ensures.changed) c.requires.whole empty_lacks

pub returns-clause-rest : goal.returns-clause-rest
returns-clause-rest g c =
    back_end c.args.within.now c.insert-2.new.self empty c.args.v
    (back_stop c.args.within.now c.loop-b.left c.loop-b.todo c.insert-2.new.self c.args.v c.args.j c.requires.differ c.loop-b.invariant c.in_default.ensures.none c.insert-2.ensures.changed).0 empty_lacks

pub returns-clause-fixed : goal.returns-clause-fixed
returns-clause-fixed g c = (back_stop c.args.within.now c.loop-b.left c.loop-b.todo c.insert-2.new.self c.args.v c.args.j c.requires.differ c.loop-b.invariant c.in_default.ensures.none c.insert-2.ensures.changed).0.start
