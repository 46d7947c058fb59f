use Rattle.std.proofs.Common.{◌∙◌, ◌++◌, ap, map, rules}
use Rattle.std.specs.FinSet.{intersection}
use Rattle.md_graph.specs.NameSet.{ascending}
use Rattle.md_digraph.specs.PlainDigraph.{successors}
use Rattle.md_decompose.specs.Heads.{pair_at}
use Rattle.md_decompose.proofs.HeadPairs.{turn_of, pairs_begin, pairs_before, pairs_pushed, pairs_more, pairs_whole}
use Rattle.md_dtree.specs.DirectedSpelling.{directed_pairs}
use Rattle.md_dtree.proofs.ArcKinds.{directed_pairs_law}
use Rattle.md_ddecompose.proofs.ArcPairs.{arcs_among, arcs_near}
use Rattle.md_ddecompose.proofs.arc_pairs.head_arcs.Goals as goal

pub loop-head-init : goal.loop-head-init
loop-head-init g c =
    pairs_begin directed_pairs_law c.args.heads.now c.requires.rising arcs_among c.into_iter-head-iterator.result c.new-list.result.items
    (c.into_iter-head-iterator.ensures.into_iter_gives ∙ c.members-head-items.ensures.list) c.members-head-items.ensures.names c.new-list.ensures.items

pub successors-row-requires : goal.successors-row-requires
successors-row-requires g c =
    let turn = turn_of directed_pairs_law c.args.heads.now c.requires.rising arcs_among c.loop-head.head-iterator c.loop-head.list.items c.loop-head.invariant c.in-Some.head _ c.in-Some.ensures.steps in
    (search rules, (search rules, c.requires.inside c.in-Some.head turn.item.member))

pub push_near-requires : goal.push_near-requires
push_near-requires g c =
    let turn = turn_of directed_pairs_law c.args.heads.now c.requires.rising arcs_among c.loop-head.head-iterator c.loop-head.list.items c.loop-head.invariant c.in-Some.head _ c.in-Some.ensures.steps in
    (search rules, (c.requires.room c.in-Some.head turn.item.member, c.requires.room))

pub loop-head-preserved : goal.loop-head-preserved
loop-head-preserved g c =
    let heads = c.args.heads.now in
    let places = c.args.places.now in
    let head = c.in-Some.head in
    let list = c.loop-head.list.items in
    let so_far = c.loop-head.invariant in
    let left = c.loop-head.head-iterator in
    let pairs = c.push_near.new.pairs.items in
    let turn = turn_of directed_pairs_law heads c.requires.rising arcs_among left list so_far head _ c.in-Some.ensures.steps in
    let near = arcs_near c.vertices-vertices.ensures.digraph heads head turn.item.member in
    pairs_more directed_pairs_law heads c.requires.rising arcs_among left list so_far head _ pairs c.in-Some.ensures.steps
    (pairs_pushed directed_pairs_law heads c.requires.rising arcs_among head (intersection (successors c.args.graph.now head) heads) near list pairs
    (λ b k. so_far.names b ((near b).0 k).second)
    (pairs_before directed_pairs_law heads c.requires.rising arcs_among left list so_far head _ c.in-Some.ensures.steps)
    (c.in_ok-push_near.ensures.pairs ∙ ap (λ row. list ++ map (pair_at directed_pairs places head) (ascending (intersection row heads))) c.successors-row.ensures.set))

pub returns : goal.returns
returns g c = pairs_whole directed_pairs_law c.args.heads.now c.requires.rising arcs_among c.loop-head.head-iterator c.loop-head.list.items c.loop-head.invariant _ c.in-None.ensures.steps
