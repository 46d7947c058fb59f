use Rattle.std.proofs.Common.{◌<◌, AllPairs, subst, sym, ◌∙◌, arith}
use Rattle.md_graph.specs.declared.TheConstants.{NAMES}
use Rattle.md_graph.proofs.NameLemmas.{ascending_order}
use Rattle.md_refine.proofs.Refining.{cut_all}
use Rattle.md_refine.proofs.partition.Partition.refine.Goals as goal

pub cut-requires-clause-order : goal.cut-requires-clause-order
cut-requires-clause-order g c =
    subst (AllPairs (λ x y. x < y)) (sym c.members.ensures.list) (ascending_order c.args.set.now 0 NAMES)

pub returns-clause-cut : goal.returns-clause-cut
returns-clause-cut g c =
    c.cut.ensures.cut c.args.set.now c.members.ensures.list
    ∙ cut_all NAMES c.args.set.now c.args.self.now c.class_count-count.ensures.partition (omega arith)
