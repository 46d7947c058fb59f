use Rattle.std.proofs.Common.{refl, rules}
use Rattle.md_graph.proofs.SetLemmas.{Has-along, of_minus}
use Rattle.md_graph.proofs.Search.{back_falls}
use Rattle.md_modules.proofs.Modules.{undirected}
use Rattle.md_modules.proofs.Turns.{graph_adjacency, reach_backed, seeing_otherwise}
use Rattle.md_modules.proofs.component_search.look_back.Goals as goal

pub seeing-new-requires : goal.seeing-new-requires
seeing-new-requires g c = (search rules, (search rules, ((λ y h. (of_minus c.args.within.now c.args.left.now y (Has-along _ _ c.minus-taken.ensures.value y h)).1), c.requires.part)))

pub returns-clause-kept : goal.returns-clause-kept
returns-clause-kept g c x is =
    reach_backed (undirected (graph_adjacency c.vertices-vertices.ensures.graph)) c.args.within.now c.args.left.now c.args.todo.now c.minus-taken.result c.seeing-new.result c.clear.new.self
    c.move_shared.new.self c.move_shared.new.to c.args.value x refl is c.minus-taken.ensures.value
    (seeing_otherwise c.args.graph.now c.args.left.now c.minus-taken.result c.seeing-new.result c.args.value c.seeing-new.ensures) c.clear.ensures.changed c.move_shared.ensures.rest c.move_shared.ensures.moved

pub returns-clause-fewer : goal.returns-clause-fewer
returns-clause-fewer g c =
    back_falls c.args.left.now c.seeing-new.result c.clear.new.self c.move_shared.new.self c.move_shared.new.to c.clear.ensures.changed
    (λ y h. ((c.seeing-new.ensures y).0 h).0) c.move_shared.ensures.rest c.move_shared.ensures.moved
