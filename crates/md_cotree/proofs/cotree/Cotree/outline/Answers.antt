use Rattle.std.proofs.Common.{Some}
use Rattle.md_tree.proofs.Stacking.{if_ok}
use Rattle.md_cotree.proofs.Telling.{has_tree, told_tree}
use Rattle.md_cotree.proofs.cotree.Cotree.outline.Goals as goal

pub outline_at-requires-clause-stands : goal.outline_at-requires-clause-stands
outline_at-requires-clause-stands c = has_tree c.args.self.now c.requires.sound.0 c.requires.sound.1 c.spare-spare.ensures.links c.in-Some.root c.in-Some.is

pub returns-in-Some : goal.returns-in-Some
returns-in-Some c = record {
  outline = if_ok c.outline_at.result (λ parts is g denotes. (Some is.0, told_tree c.args.self.now c.in-Some.root c.in-Some.is is.0 is.2 g denotes, is.1)) c.outline_at.ensures;
}
