use Rattle.std.proofs.Common.{map, sym, ◌∙◌, ap, rules}
use Rattle.std.proofs.lemmas.List.{nil_from_length}
use Rattle.md_graph.specs.PlainGraph.{adjacent}
use Rattle.md_modules.proofs.Turns.{graph_adjacency}
use Rattle.md_tree.specs.Parts.{plain_part}
use Rattle.md_decompose.specs.Turns.{open_names, IsPartOf}
use Rattle.md_decompose.proofs.Waiting.{parts_laid}
use Rattle.md_decompose.proofs.Opened.{IsReady, part_division, opened_begin, next_ready, turn_falls, opened_more, opened_end}
use Rattle.md_decompose.proofs.decomposition.parts.Goals as goal

pub loop-next-init : goal.loop-next-init
loop-next-init g c =
    opened_begin (graph_adjacency c.vertices-vertices.ensures.graph) parts_laid c.args.names.now c.in_ok-waiting.waiting.items (map plain_part c.in_ok-parts.parts.items) c.requires.some
    c.in_ok-waiting.ensures (ap (map plain_part) c.in_ok-parts.ensures.items)

pub take_apart-requires : goal.take_apart-requires
take_apart-requires g c =
    let ready : IsReady (adjacent c.args.graph.now) c.args.names.now c.in-Some.next =
    next_ready (graph_adjacency c.vertices-vertices.ensures.graph) parts_laid c.args.names.now (map plain_part c.loop-next.parts.items) c.loop-next.waiting.items c.pop.new.self.items c.in-Some.next
    c.loop-next.invariant c.in-Some.ensures.items in
    (search rules, (search rules, (ready.two, ((λ x h. c.requires.inside x (ready.inside x h)), (ready.below, ready.chain)))))

pub loop-next-smaller : goal.loop-next-smaller
loop-next-smaller g c =
    let adj = graph_adjacency c.vertices-vertices.ensures.graph in
    let parts = map plain_part c.loop-next.parts.items in
    let next = c.in-Some.next in
    let ready = next_ready adj parts_laid c.args.names.now parts c.loop-next.waiting.items c.pop.new.self.items next c.loop-next.invariant c.in-Some.ensures.items in
    turn_falls adj parts_laid c.args.names.now parts c.loop-next.waiting.items c.pop.new.self.items next c.loop-next.invariant c.in-Some.ensures.items
    (IsPartOf (adjacent c.args.graph.now) (open_names next)) (λ p added. part_division adj (open_names next) p added ready.some)
    (map plain_part c.take_apart.new.parts.items) c.take_apart.new.waiting.items c.in_ok-take_apart.ensures

pub loop-next-preserved : goal.loop-next-preserved
loop-next-preserved g c =
    let adj = graph_adjacency c.vertices-vertices.ensures.graph in
    let parts = map plain_part c.loop-next.parts.items in
    let next = c.in-Some.next in
    let ready = next_ready adj parts_laid c.args.names.now parts c.loop-next.waiting.items c.pop.new.self.items next c.loop-next.invariant c.in-Some.ensures.items in
    opened_more adj parts_laid c.args.names.now parts c.loop-next.waiting.items c.pop.new.self.items next c.loop-next.invariant c.in-Some.ensures.items
    (IsPartOf (adjacent c.args.graph.now) (open_names next)) (λ p added. part_division adj (open_names next) p added ready.some)
    (map plain_part c.take_apart.new.parts.items) c.take_apart.new.waiting.items c.in_ok-take_apart.ensures

pub returns : goal.returns
returns g c =
    opened_end (graph_adjacency c.vertices-vertices.ensures.graph) parts_laid c.args.names.now (map plain_part c.loop-next.parts.items) c.loop-next.waiting.items c.loop-next.invariant
    (nil_from_length c.loop-next.waiting.items (sym c.loop-next.waiting.ok.0 ∙ c.in_default.ensures.cases.0))
