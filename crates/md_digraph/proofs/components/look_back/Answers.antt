use Rattle.std.proofs.Common.{refl, rules}
use Rattle.md_graph.proofs.SetLemmas.{Has-along, of_minus}
use Rattle.md_graph.proofs.Search.{back_falls}
use Rattle.md_modules.proofs.Turns.{reach_backed}
use Rattle.md_digraph.specs.PlainDigraph.{has_arc_to}
use Rattle.md_digraph.proofs.ArcTurns.{arcs_turn, others_taken}
use Rattle.md_digraph.proofs.components.look_back.Goals as goal

pub having_others-new-requires : goal.having_others-new-requires
having_others-new-requires g c = (search rules, (search rules, ((λ y h. (of_minus c.args.within.now c.args.left.now y (Has-along _ _ c.minus-taken.ensures.value y h)).1), c.requires.part)))

pub returns-clause-kept : goal.returns-clause-kept
returns-clause-kept g c x is =
    reach_backed (arcs_turn (has_arc_to c.args.graph.now)) c.args.within.now c.args.left.now c.args.todo.now c.minus-taken.result c.having_others-new.result c.clear.new.self
    c.move_shared.new.self c.move_shared.new.to (c.args.both, c.args.both) x refl is c.minus-taken.ensures.value
    (others_taken c.args.graph.now c.args.left.now c.minus-taken.result c.having_others-new.result c.args.both c.having_others-new.ensures) c.clear.ensures.changed c.move_shared.ensures.rest c.move_shared.ensures.moved

pub returns-clause-fewer : goal.returns-clause-fewer
returns-clause-fewer g c =
    back_falls c.args.left.now c.having_others-new.result c.clear.new.self c.move_shared.new.self c.move_shared.new.to c.clear.ensures.changed
    (λ y h. ((c.having_others-new.ensures y).0 h).0) c.move_shared.ensures.rest c.move_shared.ensures.moved
