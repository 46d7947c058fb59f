use Rattle.std.proofs.Common.{refl, arith}
use Rattle.md_graph.proofs.SetLemmas.{clash}
use Rattle.md_checker.proofs.FitRows.{alike_on}
use Rattle.md_checker.proofs.node_fit.are_alike.Goals as goal

pub loop-head-preserved : goal.loop-head-preserved
loop-head-preserved g c = alike_on (g.G.TextGraph.view c.args.graph.now).colours c.args.others.now c.args.heads.now c.loop-head.head-index c.loop-head.invariant (c.agree_on.ensures.agree.0 c.if-not-agree_on.false)

pub returns-then-not-agree_on : goal.returns-then-not-agree_on
returns-then-not-agree_on g c = (λ f. clash f refl, λ all. clash (c.agree_on.ensures.agree.1 (λ y h. all c.loop-head.head-index y c.loop-head-test.true h)) c.if-not-agree_on.true)

pub returns : goal.returns
returns g c = (λ yes i y below h. c.loop-head.invariant i y (let over = c.loop-head-test.false in omega arith) h, λ all. refl)
