use Rattle.md_tree.proofs.Fitted.{heads_proof}
use Rattle.md_tree.proofs.laws.heads_tell_nodes.Goals as goal

pub returns : goal.returns
returns g c = record {
  law = heads_proof _ _ _;
}
