use Rattle.std.proofs.Common.{[], ◌∷◌, ◌++◌, map, None, sym, ◌∙◌, ap, rules}
use Rattle.std.proofs.lemmas.List.{nil_from_length}
use Rattle.md_graph.specs.Sets.{NameSet}
use Rattle.md_digraph.specs.PlainDigraph.{has_arc_to}
use Rattle.md_tree.specs.Parts.{plain_part}
use Rattle.md_ddecompose.specs.declared.decomposition.Open.{Open}
use Rattle.md_ddecompose.proofs.OpenSets.{opened_begin, next_ready, turn_falls, opened_more, opened_end}
use Rattle.md_ddecompose.proofs.decomposition.parts.Goals as goal

pub loop-next-init : goal.loop-next-init
loop-next-init g c =
    let whole : NameSet → Open g.row.W = λ s. record { names = s; parent = None } in
    let first : Open g.row.W = whole c.in_ok-of.field-0 in
    opened_begin (has_arc_to c.args.graph.now) c.args.graph.now.vertices first c.push.new.self.items (map plain_part c.in_ok-parts.parts.items) c.requires
    (ap whole (c.in_ok-of.ensures.made ∙ c.vertices-names.ensures.set))
    (c.in_ok-push.ensures.items ∙ ap (λ os. os ++ first ∷ []) c.in_ok-waiting.ensures.items)
    (ap (map plain_part) c.in_ok-parts.ensures.items)

pub take_apart-requires : goal.take_apart-requires
take_apart-requires g c =
    let ready = next_ready (has_arc_to c.args.graph.now) c.args.graph.now.vertices (map plain_part c.loop-next.parts.items) c.loop-next.waiting.items c.pop.new.self.items c.in-Some.next c.loop-next.invariant
    c.in-Some.ensures.items in
    (search rules, (search rules, (ready.some, (ready.inside, ready.below))))

pub loop-next-smaller : goal.loop-next-smaller
loop-next-smaller g c =
    turn_falls (has_arc_to c.args.graph.now) c.args.graph.now.vertices (map plain_part c.loop-next.parts.items) c.loop-next.waiting.items c.pop.new.self.items
    c.in-Some.next c.loop-next.invariant c.in-Some.ensures.items _ c.take_apart.new.waiting.items c.in_ok-take_apart.ensures

pub loop-next-preserved : goal.loop-next-preserved
loop-next-preserved g c =
    opened_more (has_arc_to c.args.graph.now) c.args.graph.now.vertices _ c.loop-next.waiting.items c.pop.new.self.items
    c.in-Some.next c.loop-next.invariant c.in-Some.ensures.items _ c.take_apart.new.waiting.items c.in_ok-take_apart.ensures

pub returns : goal.returns
returns g c =
    opened_end (has_arc_to c.args.graph.now) c.args.graph.now.vertices (map plain_part c.loop-next.parts.items) c.loop-next.waiting.items c.loop-next.invariant
    (nil_from_length c.loop-next.waiting.items (sym c.loop-next.waiting.ok.0 ∙ c.in_default.ensures.cases.0))
