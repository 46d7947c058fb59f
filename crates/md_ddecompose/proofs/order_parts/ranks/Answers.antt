use Rattle.std.proofs.Common.{◌≡◌, ◌≤◌, ◌∙◌, arith, rules}
use Rattle.std.proofs.lemmas.List.Sorted.{IsNonDecreasingBy-from_sort_by_key}
use Rattle.md_digraph.specs.declared.TheConstants.{DIRECTED_NAMES}
use Rattle.md_digraph.specs.PlainDigraph.{has_arc_to}
use Rattle.md_dtree.specs.Balance.{arcs_from, arcs_to}
use Rattle.md_ddecompose.specs.declared.order_parts.Ranked.{Ranked}
use Rattle.md_ddecompose.proofs.RankLemmas.{ranks_begin, next_member, ranks_more, are_ranked, from_counted, to_counted, few_shared}
use Rattle.md_ddecompose.proofs.order_parts.ranks.Goals as goal

pub loop-name-init : goal.loop-name-init
loop-name-init g c =
    ranks_begin (has_arc_to c.args.graph.now) c.args.set.now c.in_ok-ranks.ranks.items _ c.in_ok-ranks.ensures.items
    (c.into_iter-name-iterator.ensures.into_iter_gives ∙ c.members-name-items.ensures.list)

pub successors-requires : goal.successors-requires
successors-requires g c =
    (search rules, (search rules, c.requires.inside c.in-Some.name (next_member (has_arc_to c.args.graph.now) c.args.set.now c.loop-name.ranks.items _ _ c.in-Some.name c.loop-name.invariant c.in-Some.ensures.steps)))

pub predecessors-requires : goal.predecessors-requires
predecessors-requires g c =
    (search rules, (search rules, c.requires.inside c.in-Some.name (next_member (has_arc_to c.args.graph.now) c.args.set.now c.loop-name.ranks.items _ _ c.in-Some.name c.loop-name.invariant c.in-Some.ensures.steps)))

pub overflow_add-lag : goal.overflow_add-lag
overflow_add-lag g c =
    let to : c.count-to.result ≤ DIRECTED_NAMES =
    few_shared c.predecessors.result.now c.args.set.now c.and-into.result c.count-to.result DIRECTED_NAMES (λ x h. c.vertices-vertices.ensures.digraph.names x (c.requires.inside x h)) c.and-into.ensures.value c.count-to.ensures.value
    in
    omega arith

pub overflow_sub-lag : goal.overflow_sub-lag
overflow_sub-lag g c =
    let from : c.count-from.result ≤ DIRECTED_NAMES =
    few_shared c.successors.result.now c.args.set.now c.and-out.result c.count-from.result DIRECTED_NAMES (λ x h. c.vertices-vertices.ensures.digraph.names x (c.requires.inside x h)) c.and-out.ensures.value c.count-from.ensures.value
    in
    omega arith

pub loop-name-preserved : goal.loop-name-preserved
loop-name-preserved g c =
    let arc = has_arc_to c.args.graph.now in
    let digraph = c.vertices-vertices.ensures.digraph in
    let s = c.args.set.now in
    let name = c.in-Some.name in
    let few : c.count-from.result ≤ DIRECTED_NAMES =
    few_shared c.successors.result.now s c.and-out.result c.count-from.result DIRECTED_NAMES (λ x h. digraph.names x (c.requires.inside x h)) c.and-out.ensures.value c.count-from.ensures.value
    in
    let from : c.count-from.result ≡ arcs_from arc s name = from_counted digraph s name c.successors.result.now c.and-out.result c.count-from.result c.successors.ensures.set c.and-out.ensures.value c.count-from.ensures.value in
    let to : c.count-to.result ≡ arcs_to arc s name = to_counted digraph s name c.predecessors.result.now c.and-into.result c.count-to.result c.predecessors.ensures.set c.and-into.ensures.value c.count-to.ensures.value in
    ranks_more arc s c.loop-name.ranks.items c.push.new.self.items _ _ _ c.loop-name.invariant c.in-Some.ensures.steps (omega arith) c.in_ok-push.ensures.items

pub returns : goal.returns
returns g c =
    are_ranked (has_arc_to c.args.graph.now) c.args.set.now c.loop-name.ranks.items c.sort_unstable_by_key.new.self.items _ c.loop-name.invariant c.in-None.ensures.steps.0
    c.members-name-items.ensures.names c.sort_unstable_by_key.ensures.permutation
    (IsNonDecreasingBy-from_sort_by_key (λ (r : Ranked). r.lag) _ c.sort_unstable_by_key.ensures.sorted (λ a r q k. search rules))
