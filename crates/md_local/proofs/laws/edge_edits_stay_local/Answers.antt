use Rattle.md_local.proofs.Local.{edge_edits_proof}
use Rattle.md_local.proofs.laws.edge_edits_stay_local.Goals as goal

pub returns : goal.returns
returns g c = record {
  law = edge_edits_proof _;
}
