use Rattle.std.proofs.Common.{◌≡◌, ◌↔◌, ◌-◌, ◌==◌, true, sym, subst}
use Rattle.md_graph.specs.PlainGraph.{adjacent}
use Rattle.md_comparability.specs.Chains.{IsShortestChain}
use Rattle.md_levels.proofs.LevelLemmas.{not_empty, reverse_there, told_shortest}
use Rattle.md_levels.proofs.shortest.is_shortest.Goals as goal

pub unreachable-requires : goal.unreachable-requires
unreachable-requires g c =
    reverse_there (adjacent c.args.graph.now) c.get-first.result _ c.in_ok-levels.ensures.levels c.args.chain.now c.requires.chain c.get-first.ensures c.in-None.ensures.none

pub returns : goal.returns
returns g c = record {
  exactly =
      subst (λ n. ((n - 1 == c.in-Some.steps) ≡ true) ↔ IsShortestChain (adjacent c.args.graph.now) c.args.chain.now) (sym c.len.ensures)
      (told_shortest (adjacent c.args.graph.now) c.get-first.result _ c.in_ok-levels.ensures.levels c.args.chain.now c.requires.chain c.get-first.ensures c.in-Some.steps c.in-Some.ensures.found);
}
