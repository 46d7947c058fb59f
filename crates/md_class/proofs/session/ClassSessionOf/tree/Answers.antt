use Rattle.std.proofs.Common.{ap}
use Rattle.md_cograph.proofs.Changed.{told_of}
use Rattle.md_class.specs.ClassSessions.{PlainClassSession}
use Rattle.md_class.proofs.session.ClassSessionOf.tree.Goals as goal

pub returns : goal.returns
returns g c = record {
  tree = told_of c.self.inside.tree c.self.inside.graph c.args.self.now.graph c.self.invariant.1 (ap (λ (s : PlainClassSession). s.graph) c.self.view_is) c.to_tree.result c.to_tree.ensures.tree;
}
