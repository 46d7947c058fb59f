use Rattle.std.proofs.Common.{◌≡◌, ◌++◌, length}
use Rattle.md_tree.specs.Spellings.{spelling}
use Rattle.md_tree.specs.Plain.{plain}
use Rattle.md_text.specs.Fronts.{BeginsWith}
use Rattle.md_tree.specs.OpenNodes.{rest_text}
use Rattle.md_tree.specs.TreeTexts.{tree_text_by}
use Rattle.md_tree.proofs.writer.push_tree.Given as goal

abbrev pub invariant-loop-node : goal.invariant-loop-node
invariant-loop-node g l = record {
  begun : BeginsWith l.text.items l.fn.text.items;
  written : l.text.items ++ rest_text (spelling g.K.Lettered.rules g.P.Paired.rules) l.open.items ≡ l.fn.text.items ++ tree_text_by (spelling g.K.Lettered.rules g.P.Paired.rules) (plain l.tree);
}

abbrev pub decreases-loop-node : goal.decreases-loop-node
decreases-loop-node g l = length (rest_text (spelling g.K.Lettered.rules g.P.Paired.rules) l.open.items)
