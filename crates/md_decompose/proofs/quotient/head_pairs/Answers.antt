use Rattle.std.proofs.Common.{◌∙◌, ◌++◌, ap, map, rules}
use Rattle.std.specs.FinSet.{intersection}
use Rattle.md_graph.specs.NameSet.{ascending}
use Rattle.md_graph.specs.PlainGraph.{neighbours}
use Rattle.md_tree.specs.Spellings.{graph_pairs}
use Rattle.md_tree.proofs.Spelled.{graph_pairs_law}
use Rattle.md_decompose.specs.Heads.{pair_at}
use Rattle.md_decompose.proofs.HeadPairs.{near_among, later_near, pairs_before, pairs_pushed, pairs_whole, later_begin, later_head, later_behind, later_more}
use Rattle.md_decompose.proofs.quotient.head_pairs.Goals as goal

pub loop-head-init : goal.loop-head-init
loop-head-init g c =
    later_begin c.args.heads.now c.args.places.now c.requires.rising c.copy-later.result c.into_iter-head-iterator.result c.in_ok-edges.edges.items c.copy-later.ensures.value
    (c.into_iter-head-iterator.ensures.into_iter_gives ∙ c.members-head-items.ensures.list) c.members-head-items.ensures.names c.in_ok-edges.ensures.items

pub remove-requires : goal.remove-requires
remove-requires g c = (
  search rules,
  c.members-head-items.ensures.below _ (later_head c.args.heads.now c.args.places.now c.requires.rising c.loop-head.later c.loop-head.head-iterator c.loop-head.edges.items c.loop-head.invariant c.in-Some.head _ c.in-Some.ensures.steps),
)

pub neighbours-requires : goal.neighbours-requires
neighbours-requires g c = (
  search rules,
  (
    search rules,
    c.requires.inside _ (later_head c.args.heads.now c.args.places.now c.requires.rising c.loop-head.later c.loop-head.head-iterator c.loop-head.edges.items c.loop-head.invariant c.in-Some.head _ c.in-Some.ensures.steps),
  ),
)

pub push_near-requires : goal.push_near-requires
push_near-requires g c =
    let own = later_head c.args.heads.now c.args.places.now c.requires.rising c.loop-head.later c.loop-head.head-iterator c.loop-head.edges.items c.loop-head.invariant c.in-Some.head _ c.in-Some.ensures.steps in
    let behind = later_behind c.args.heads.now c.args.places.now c.requires.rising c.loop-head.later c.loop-head.head-iterator c.loop-head.edges.items c.loop-head.invariant c.in-Some.head _ c.in-Some.ensures.steps c.remove.new.self c.remove.ensures.changed in
    (search rules, (c.requires.room c.in-Some.head own, λ v h. c.requires.room v ((behind v).0 h).0))

pub loop-head-preserved : goal.loop-head-preserved
loop-head-preserved g c =
    let heads = c.args.heads.now in
    let so_far = c.loop-head.invariant in
    let later = c.remove.new.self in
    let edges = c.loop-head.edges.items in
    let behind = later_behind heads c.args.places.now c.requires.rising c.loop-head.later c.loop-head.head-iterator edges so_far c.in-Some.head _ c.in-Some.ensures.steps later c.remove.ensures.changed in
    let own = later_head heads c.args.places.now c.requires.rising c.loop-head.later c.loop-head.head-iterator edges so_far c.in-Some.head _ c.in-Some.ensures.steps in
    let near = later_near c.vertices-vertices.ensures.graph heads later c.in-Some.head own behind in
    later_more heads c.args.places.now c.requires.rising c.loop-head.later c.loop-head.head-iterator edges so_far c.in-Some.head _ c.in-Some.ensures.steps later c.push_near.new.pairs.items behind
    (pairs_pushed graph_pairs_law heads c.requires.rising near_among c.in-Some.head (intersection (neighbours c.args.graph.now c.in-Some.head) later) near edges c.push_near.new.pairs.items
    (λ b k. so_far.listing.names b ((near b).0 k).second)
    (pairs_before graph_pairs_law heads c.requires.rising near_among c.loop-head.head-iterator edges so_far.listing c.in-Some.head _ c.in-Some.ensures.steps)
    (c.in_ok-push_near.ensures.pairs ∙ ap (λ row. edges ++ map (pair_at graph_pairs c.args.places.now c.in-Some.head) (ascending (intersection row later))) c.neighbours.ensures.set))

pub returns : goal.returns
returns g c = pairs_whole graph_pairs_law c.args.heads.now c.requires.rising near_among c.loop-head.head-iterator c.loop-head.edges.items c.loop-head.invariant.listing _ c.in-None.ensures.steps
