use Rattle.std.proofs.Common.{arith}
use Rattle.md_digraph.specs.PlainDigraph.{has_arc_to}
use Rattle.md_ddecompose.proofs.OrderLemmas.{no_order, order_children}
use Rattle.md_ddecompose.proofs.order_parts.order_parts.Goals as goal

pub returns-then-count-lt2 : goal.returns-then-count-lt2
returns-then-count-lt2 g c =
    no_order (has_arc_to c.args.graph.now) c.args.set.now c.in_ok-parts.parts.items c.in_ok-parts.ensures c.requires.some
    (let a = c.len-count.ensures in let b = c.in_ok-parts.parts.ok.0 in let few = c.if-count-lt2.true in omega arith)

pub returns : goal.returns
returns g c =
    order_children (has_arc_to c.args.graph.now) c.args.set.now c.in_ok-parts.parts.items c.in_ok-parts.ensures
    (let a = c.len-count.ensures in let b = c.in_ok-parts.parts.ok.0 in let many = c.if-count-lt2.false in omega arith)
