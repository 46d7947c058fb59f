use Rattle.md_cograph.proofs.Changed.{told_of}
use Rattle.md_session.proofs.cograph.CographSessionOf.tree.Goals as goal

pub returns : goal.returns
returns g c = record { tree = told_of c.self.inside.tree c.self.inside.graph c.args.self.now c.self.invariant.1 c.self.view_is c.to_tree.result c.to_tree.ensures.tree }
