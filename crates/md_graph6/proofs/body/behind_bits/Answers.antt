use Rattle.md_graph6.proofs.ShortLemmas.{unread_behind}
use Rattle.md_graph6.proofs.body.behind_bits.Goals as goal

pub returns-clause-unread : goal.returns-clause-unread
returns-clause-unread c = unread_behind c.args.body.now _ c.args.count _ _ _ c.requires.enough c.requires.unread
