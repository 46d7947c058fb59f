use Rattle.std.proofs.Common.{sym, ◌∙◌, append-nil, rules}
use Rattle.std.proofs.lemmas.List.{nil_from_length}
use Rattle.md_graph.specs.PlainGraph.{adjacent}
use Rattle.md_modules.proofs.Turns.{graph_adjacency}
use Rattle.md_outline.specs.Outlines.{outline_of}
use Rattle.md_decompose.proofs.Turned.{outlines_laid}
use Rattle.md_decompose.proofs.Opened.{IsReady, opened_begin, next_ready, outlined_falls, outlined_more, opened_end}
use Rattle.md_decompose.proofs.outline.lay_parts.Goals as goal

pub loop-next-init : goal.loop-next-init
loop-next-init g c =
    opened_begin (graph_adjacency c.vertices-vertices.ensures.graph) outlines_laid c.args.names.now c.in_ok-waiting.waiting.items c.reserve.new.self.items c.requires.some
    c.in_ok-waiting.ensures (c.in_ok-reserve.ensures.items ∙ c.requires.none)

pub outline_apart-requires : goal.outline_apart-requires
outline_apart-requires g c =
    let ready : IsReady (adjacent c.args.graph.now) c.args.names.now c.in-Some.next =
    next_ready (graph_adjacency c.vertices-vertices.ensures.graph) outlines_laid c.args.names.now c.loop-next.parts.items c.loop-next.waiting.items c.pop.new.self.items c.in-Some.next
    c.loop-next.invariant c.in-Some.ensures.items in
    (search rules, (search rules, (ready.two, ((λ x h. c.requires.inside x (ready.inside x h)), (ready.below, ready.chain)))))

pub loop-next-smaller : goal.loop-next-smaller
loop-next-smaller g c =
    let adj = graph_adjacency c.vertices-vertices.ensures.graph in
    let parts = c.loop-next.parts.items in
    let next = c.in-Some.next in
    let ready = next_ready adj outlines_laid c.args.names.now parts c.loop-next.waiting.items c.pop.new.self.items next c.loop-next.invariant c.in-Some.ensures.items in
    outlined_falls adj c.args.names.now parts c.loop-next.waiting.items c.pop.new.self.items next c.loop-next.invariant c.in-Some.ensures.items ready.some
    c.outline_apart.new.parts.items c.outline_apart.new.waiting.items c.in_ok-outline_apart.ensures

pub loop-next-preserved : goal.loop-next-preserved
loop-next-preserved g c =
    let adj = graph_adjacency c.vertices-vertices.ensures.graph in
    let parts = c.loop-next.parts.items in
    let next = c.in-Some.next in
    let ready = next_ready adj outlines_laid c.args.names.now parts c.loop-next.waiting.items c.pop.new.self.items next c.loop-next.invariant c.in-Some.ensures.items in
    outlined_more adj c.args.names.now parts c.loop-next.waiting.items c.pop.new.self.items next c.loop-next.invariant c.in-Some.ensures.items ready.some
    c.outline_apart.new.parts.items c.outline_apart.new.waiting.items c.in_ok-outline_apart.ensures

pub returns : goal.returns
returns g c =
    let end =
    opened_end (graph_adjacency c.vertices-vertices.ensures.graph) outlines_laid c.args.names.now c.loop-next.parts.items c.loop-next.waiting.items c.loop-next.invariant
    (nil_from_length c.loop-next.waiting.items (sym c.loop-next.waiting.ok.0 ∙ c.in_default.ensures.cases.0))
    in
    (end.0, end.1, end.2 ∙ append-nil (outline_of end.0))
