use Rattle.md_digraph.proofs.ArcTurns.{others_out, others_in}
use Rattle.md_digraph.proofs.components.has_others.Goals as goal

pub returns-then-differs : goal.returns-then-differs
returns-then-differs g c =
    others_out c.successors.ensures.digraph c.args.w c.args.both c.args.among.now c.successors.result.now c.differs.result c.successors.ensures.set c.if-differs.true c.differs.ensures

pub returns-else-differs : goal.returns-else-differs
returns-else-differs g c =
    others_in c.successors.ensures.digraph c.args.w c.args.both c.args.among.now c.successors.result.now c.predecessors.result.now c.differs.result c.differs-else-differs.result c.successors.ensures.set c.predecessors.ensures.set c.if-differs.false c.differs.ensures c.differs-else-differs.ensures
