use Rattle.std.proofs.Common.{refl}
use Rattle.md_graph.proofs.SetLemmas.{clash}
use Rattle.md_dcheck.proofs.ArcTests.{both_agree, forth_agrees}
use Rattle.md_dcheck.proofs.digraph_text.has_arcs.Goals as goal

pub returns-then-not-agrees_on : goal.returns-then-not-agrees_on
returns-then-not-agrees_on g c = (
  λ f. clash f refl,
  λ all. clash (c.agrees_on.ensures.exactly.1 (forth_agrees c.successors.ensures.digraph c.args.v c.args.set.now c.args.out.now c.args.into.now c.successors.result.now c.successors.ensures.set all)) c.if-not-agrees_on.true,
)

pub returns : goal.returns
returns g c =
    let both =
    both_agree c.successors.ensures.digraph c.args.v c.args.set.now c.args.out.now c.args.into.now c.successors.result.now c.predecessors.result.now c.successors.ensures.set c.predecessors.ensures.set in
    (λ t. both.0 (c.agrees_on.ensures.exactly.0 c.if-not-agrees_on.false, c.agrees_on-2.ensures.exactly.0 t), λ all. c.agrees_on-2.ensures.exactly.1 (both.1 all).1)
