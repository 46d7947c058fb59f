use Rattle.md_comparability.proofs.Classes.{transitive_proof}
use Rattle.md_comparability.proofs.laws.classes_are_transitive.Goals as goal

pub returns : goal.returns
returns c = transitive_proof
