use Rattle.std.specs.FinSet.{intersection}
use Rattle.std.proofs.Common.{refl, sym, subst, ◌++◌, ◌+◌, get_or, rules, arith}
use Rattle.md_graph.specs.NameSet.{ascending_from}
use Rattle.md_graph.specs.PlainGraph.{adjacent, neighbours}
use Rattle.md_graph.specs.Sets.{Has}
use Rattle.md_tree.specs.Spellings.{graph_pairs}
use Rattle.md_outline.specs.NodeRows.{is_edge_up}
use Rattle.md_outline.proofs.HeadPairs.{heads_begin, near_is, near_there, heads_more, heads_end}
use Rattle.md_outline.proofs.NodeRows.{edges_ahead}
use Rattle.md_outline.proofs.head_pairs.gather_pairs.Goals as goal

pub loop-position-init : goal.loop-position-init
loop-position-init g c = heads_begin graph_pairs (is_edge_up (adjacent c.args.graph.now)) c.args.heads.now (c.args.text.now.items ++ c.args.space.now.chunk) c.args.space.now.places c.requires.places

pub put_head-requires : goal.put_head-requires
put_head-requires g c =
    let graph = c.vertices-vertices.ensures.graph in
    let head = get_or c.args.heads.now c.loop-position.position 0 in
    let vertex = c.requires.heads.members c.loop-position.position c.loop-position-test.true in
    let row = neighbours c.args.graph.now head in
    let there = near_there (is_edge_up (adjacent c.args.graph.now)) c.args.heads.now c.requires.heads.order (λ k low. graph.names (get_or c.args.heads.now k 0) (c.requires.heads.members k low)) head row (intersection row c.args.all.now) c.args.all.now (head + 1)
    (let name = graph.names head vertex in omega arith) c.requires.all refl (edges_ahead graph head row refl) c.loop-position.space.places c.loop-position.invariant.places in
    (search rules, (search rules, (vertex, (λ t x h. c.is_subset-whole.ensures.exactly.0 t x (subst (λ s. Has s x) (sym c.vertices.ensures.set) h), ((let a = c.loop-position-test.true in let b = c.requires.few in omega arith), there)))))

pub loop-position-preserved : goal.loop-position-preserved
loop-position-preserved g c =
    let graph = c.vertices-vertices.ensures.graph in
    let head = get_or c.args.heads.now c.loop-position.position 0 in
    let vertex = c.requires.heads.members c.loop-position.position c.loop-position-test.true in
    let row = neighbours c.args.graph.now head in
    let near = near_is (is_edge_up (adjacent c.args.graph.now)) c.args.heads.now c.requires.heads.order (λ k low. graph.names (get_or c.args.heads.now k 0) (c.requires.heads.members k low)) head row (intersection row c.args.all.now) c.args.all.now (head + 1)
    (let name = graph.names head vertex in omega arith) c.requires.all refl (edges_ahead graph head row refl) in
    heads_more graph_pairs (is_edge_up (adjacent c.args.graph.now)) c.args.heads.now c.loop-position.position c.loop-position-test.true (c.args.text.now.items ++ c.args.space.now.chunk) (c.loop-position.text.items ++ c.loop-position.space.chunk) c.loop-position.space.mark c.loop-position.space.places
    c.loop-position.invariant (c.put_head.new.text.items ++ c.put_head.new.space.chunk) c.put_head.new.space.mark c.put_head.new.space.places (ascending_from (intersection row c.args.all.now) (head + 1)) c.put_head.ensures.places near c.in_ok-put_head.ensures.written

pub returns : goal.returns
returns g c = heads_end graph_pairs (is_edge_up (adjacent c.args.graph.now)) c.args.heads.now c.loop-position.position (c.args.text.now.items ++ c.args.space.now.chunk) (c.loop-position.text.items ++ c.loop-position.space.chunk) c.loop-position.space.mark c.loop-position.space.places (omega arith) c.loop-position.invariant
