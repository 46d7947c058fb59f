use Rattle.md_local.proofs.Local.{changes_proof}
use Rattle.md_local.proofs.laws.changes_stay_local.Goals as goal

pub returns : goal.returns
returns g c = record {
  law = changes_proof _;
}
