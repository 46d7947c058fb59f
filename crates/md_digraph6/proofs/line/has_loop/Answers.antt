use Rattle.std.proofs.Common.{refl, sym, ap, ◌∙◌, arith}
use Rattle.md_digraph6.specs.ArcLine.{some_loop}
use Rattle.md_digraph6.proofs.ArcBits.{loop_none_more, loop_found}
use Rattle.md_digraph6.proofs.line.has_loop.Goals as goal

pub loop-i-init : goal.loop-i-init
unfolding some_loop
loop-i-init c = refl

pub returns-then-is_set : goal.returns-then-is_set
returns-then-is_set c =
    sym (loop_found c.args.body.now c.args.n c.args.n c.loop-i.i (omega arith) (sym c.is_set.ensures ∙ c.if-is_set.true))

pub loop-i-preserved : goal.loop-i-preserved
loop-i-preserved c = loop_none_more c.args.body.now c.args.n c.loop-i.i c.loop-i.invariant (sym c.is_set.ensures ∙ c.if-is_set.false)

pub returns : goal.returns
returns c = sym (ap (some_loop c.args.body.now c.args.n) (omega arith) ∙ c.loop-i.invariant)
