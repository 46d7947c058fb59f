use Rattle.std.proofs.Common.{sym, subst, rules}
use Rattle.md_graph.specs.Sets.{Has}
use Rattle.md_forcing.specs.Sides.{adjacent_on}
use Rattle.md_forcing.proofs.SeenRows.{tail_within}
use Rattle.md_forcing.proofs.OneSide.{unseen_at_tail}
use Rattle.md_forcing.proofs.arc_set.ArcSetOf.unseen_heads.Goals as goal

pub heads-requires : goal.heads-requires
heads-requires g c = (search rules, (search rules, tail_within _ c.args.by c.requires.seen))

pub apart-requires : goal.apart-requires
apart-requires g c = (search rules, (search rules, (c.requires.is_arc, subst (λ s. Has s c.args.by.head) (sym c.heads.ensures) c.requires.seen)))

pub returns : goal.returns
returns g c = unseen_at_tail (adjacent_on c.args.side c.args.graph.now) _ c.args.by _ c.heads.ensures c.requires.seen _ c.apart.ensures
