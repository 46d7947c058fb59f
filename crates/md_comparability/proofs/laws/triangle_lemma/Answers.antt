use Rattle.md_comparability.proofs.Triangles.{triangle_proof}
use Rattle.md_comparability.proofs.laws.triangle_lemma.Goals as goal

pub returns : goal.returns
returns c = triangle_proof
