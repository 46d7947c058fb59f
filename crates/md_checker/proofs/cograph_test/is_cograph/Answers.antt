use Rattle.std.proofs.Common.{◌∙◌, refl, false}
use Rattle.md_graph.proofs.SetLemmas.{clash}
use Rattle.md_modules.proofs.Turns.{graph_adjacency}
use Rattle.md_checker.proofs.Splitting.{down_begin, down_more, down_falls, down_found}
use Rattle.md_checker.proofs.cograph_test.is_cograph.Goals as goal

pub loop-set-init : goal.loop-set-init
loop-set-init g c =
    down_begin c.args.graph.now.vertices (record { names = c.in_ok-names.names; joined = false }) c.new-left.result.items c.push.new.self.items
    (c.in_ok-names.ensures.made ∙ c.vertices.ensures.set) c.new-left.ensures.items c.in_ok-push.ensures.items

pub returns-then-not-branch : goal.returns-then-not-branch
returns-then-not-branch g c = (
  λ yes. clash yes refl,
  λ none. absurd (none (down_found c.args.graph.now.vertices c.loop-set.left.items c.pop.new.self.items c.in-Some.set c.loop-set.invariant c.in-Some.ensures.items (c.in_ok-take_apart.ensures.path (λ yes. clash yes c.if-not-branch.true)))),
)

pub loop-set-smaller : goal.loop-set-smaller
loop-set-smaller g c =
    let r = c.in_ok-take_apart.ensures.apart c.if-not-branch.false in
    down_falls c.args.graph.now.vertices c.loop-set.left.items c.pop.new.self.items c.in-Some.set c.loop-set.invariant c.in-Some.ensures.items r.0 c.take_apart.new.left.items r.1 r.2

pub loop-set-preserved : goal.loop-set-preserved
loop-set-preserved g c =
    let r = c.in_ok-take_apart.ensures.apart c.if-not-branch.false in
    down_more c.args.graph.now.vertices c.loop-set.left.items c.pop.new.self.items c.in-Some.set c.loop-set.invariant c.in-Some.ensures.items (graph_adjacency c.vertices.ensures.graph) r.0 c.take_apart.new.left.items r.1 r.2
