use Rattle.std.proofs.Common.{◌<◌, AllPairs, subst, sym}
use Rattle.md_graph.specs.declared.TheConstants.{NAMES}
use Rattle.md_graph.proofs.NameLemmas.{ascending_order}
use Rattle.md_refine.proofs.partition.Partition.refine_outside.Goals as goal

pub cut_uncounted-requires-clause-order : goal.cut_uncounted-requires-clause-order
cut_uncounted-requires-clause-order g c =
    subst (AllPairs (λ x y. x < y)) (sym c.members.ensures.list) (ascending_order c.args.set.now 0 NAMES)
