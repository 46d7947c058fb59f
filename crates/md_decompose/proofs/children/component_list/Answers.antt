use Rattle.std.proofs.Common.{◌++◌, ◌∷◌, [], refl, ◌∙◌, ap}
use Rattle.md_modules.proofs.Modules.{undirected}
use Rattle.md_modules.proofs.PathSearch.{adjacency}
use Rattle.md_decompose.proofs.Components.{listing_begin, listing_turn, listing_end}
use Rattle.md_graph.proofs.Search.{rest_falls}
use Rattle.md_graph.proofs.SetLemmas.{flipped_off}
use Rattle.md_decompose.proofs.children.component_list.Goals as goal

pub loop-v-init : goal.loop-v-init
loop-v-init g c =
    listing_begin (undirected (adjacency c.requires.graph)) c.args.set.now c.minus-rest.result c.args.first c.args.value c.new-sets.result.items c.push.new.self.items refl c.requires.split c.requires.first c.minus-rest.ensures.value
    c.new-sets.ensures.items (c.in_ok-push.ensures.items ∙ ap (λ b. c.new-sets.result.items ++ b ∷ []) c.in_ok-of.ensures.made)

pub loop-v-smaller : goal.loop-v-smaller
loop-v-smaller g c =
    rest_falls c.loop-v.rest c.component_at-next.result c.symmetric_difference_with.new.self c.in-Some.v c.in-Some.ensures.found.member c.component_at-next.ensures.holds (flipped_off c.loop-v.rest c.component_at-next.result c.symmetric_difference_with.new.self c.component_at-next.ensures.closed.inside c.symmetric_difference_with.ensures.changed)

pub loop-v-preserved : goal.loop-v-preserved
loop-v-preserved g c =
    listing_turn (undirected (adjacency c.requires.graph)) c.args.set.now c.loop-v.rest c.symmetric_difference_with.new.self c.component_at-next.result c.args.value c.in-Some.v c.loop-v.sets.items c.push-in-Some.new.self.items
    refl c.requires.split c.loop-v.invariant c.in-Some.ensures.found c.component_at-next.ensures (flipped_off c.loop-v.rest c.component_at-next.result c.symmetric_difference_with.new.self c.component_at-next.ensures.closed.inside c.symmetric_difference_with.ensures.changed)
    (c.in_ok-push-2.ensures.items ∙ ap (λ b. c.loop-v.sets.items ++ b ∷ []) c.in_ok-of-2.ensures.made)

pub returns : goal.returns
returns g c = listing_end c.args.set.now c.loop-v.rest c.args.value c.loop-v.sets.items c.loop-v.invariant c.in_default.ensures.none
