use Rattle.std.proofs.Common.{◌≡◌, ◌<◌, ℕ, get_or}
use Rattle.md_graph.specs.Sets.{Has}
use Rattle.md_checker.proofs.node_fit.are_alike.Given as goal

abbrev pub invariant-loop-head : goal.invariant-loop-head
invariant-loop-head g l =
    let view = g.G.TextGraph.view l.graph in (i y : ℕ) → i < l.head-index → Has l.others y → view.colours (get_or l.heads 0 0) y ≡ view.colours (get_or l.heads i 0) y
