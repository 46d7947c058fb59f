use Rattle.std.proofs.Common.{◌∙◌, rules}
use Rattle.md_forcing.proofs.SeenRows.{head_within}
use Rattle.md_forcing.proofs.OneSide.{unseen_at_head, side_symmetric}
use Rattle.md_forcing.proofs.arc_set.ArcSetOf.unseen_tails.Goals as goal

pub tails-requires : goal.tails-requires
tails-requires g c = (search rules, (search rules, head_within _ _ _ c.args.by c.self.invariant c.self.view_is c.requires.seen))

pub apart-requires : goal.apart-requires
apart-requires g c = (search rules, (search rules, (side_symmetric c.args.side c.args.graph.now c.args.by.head c.args.by.tail ∙ c.requires.is_arc, c.tails.ensures c.args.by.tail ∙ c.requires.seen)))

pub returns : goal.returns
returns g c =
    unseen_at_head _ (side_symmetric c.args.side c.args.graph.now) _ c.args.by _ c.tails.ensures c.requires.seen _ c.apart.ensures
