use Rattle.md_digraph.proofs.ArcLaws.{children_proof}
use Rattle.md_digraph.proofs.laws.directed_children_are_components.Goals as goal

pub returns : goal.returns
returns c = record {
  law = children_proof;
}
