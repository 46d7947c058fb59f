use Rattle.md_orient.proofs.Modelling.{counted, counted_turned}
use Rattle.md_orient.proofs.permutation.place_of.Goals as goal

pub returns-then-turned : goal.returns-then-turned
returns-then-turned g c =
    counted_turned c.args.edges.now c.args.others.now c.args.turned c.args.v _ _ _ _ c.if-turned.true c.count.ensures.value c.count-others_before.ensures.value c.heads.ensures c.tails.ensures

pub returns-else-turned : goal.returns-else-turned
returns-else-turned g c =
    counted c.args.edges.now c.args.others.now c.args.turned c.args.v _ _ _ _ c.if-turned.false c.count-else-turned.ensures.value c.count-others_before.ensures.value c.tails-else-turned.ensures c.tails.ensures
