use Rattle.std.proofs.Common.{◌∙◌}
use Rattle.md_session.proofs.cograph.CographSessionOf.node_count.Goals as goal

pub node_count-requires : goal.node_count-requires
node_count-requires g c = (c.self.invariant.1.0, c.self.invariant.1.1)

pub returns : goal.returns
returns g c = record {
  count = λ p tree.
      let den = c.self.invariant.1 in
      c.node_count.ensures.tree c.args.self.now p (den.0, den.1, den.2 ∙ c.self.view_is) tree;
}
