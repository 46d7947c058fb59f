use Rattle.md_forcing.proofs.Entries.{pushed}
use Rattle.md_forcing.proofs.class.Class.push.Goals as goal

pub returns : goal.returns
returns c = pushed _ _ _ c.args.by c.args.place c.self.view_is c.in_ok-insert.ensures.entries c.requires
