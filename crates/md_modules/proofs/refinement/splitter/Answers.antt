use Rattle.md_graph.specs.PlainGraph.{adjacent}
use Rattle.md_modules.proofs.ClassLemmas.{alone_uncut}
use Rattle.md_modules.proofs.refinement.splitter.Goals as goal

pub returns-then-is_name-clause-none : goal.returns-then-is_name-clause-none
returns-then-is_name-clause-none g c =
    let named = c.is_name.ensures c.if-is_name.true in
    alone_uncut (adjacent c.args.graph.now) c.args.left.now c.args.class.now named.0 named.1
