use Rattle.md_digraph.proofs.ArcLaws.{seen_alike_proof}
use Rattle.md_digraph.proofs.laws.directed_modules_are_seen_alike.Goals as goal

pub returns : goal.returns
returns c = record {
  law = seen_alike_proof;
}
