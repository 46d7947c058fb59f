use Rattle.std.proofs.Common.{◌≡◌, [], ◌∷◌, ◌++◌, length, map}
use Rattle.md_tree.specs.Spellings.{spelling}
use Rattle.md_tree.specs.Trees.{row}
use Rattle.md_tree.specs.Plain.{plain}
use Rattle.md_text.specs.Fronts.{BeginsWith}
use Rattle.md_tree.specs.OpenNodes.{open_text}
use Rattle.md_tree.specs.TreeTexts.{row_text_by, pairs_text_by}
use Rattle.md_tree.proofs.writer.push_leaves.Given as goal

abbrev pub invariant-loop-name : goal.invariant-loop-name
invariant-loop-name g l = record {
  begun : BeginsWith l.text.items l.fn.text.items;
  written : l.text.items ++ (row_text_by (spelling g.K.Lettered.rules g.P.Paired.rules) l.mark (row (map plain l.children)) ++ (pairs_text_by g.P.Paired.rules 59 l.node.pairs.now.list.items ++ 41 ∷ [])) ≡ l.fn.text.items ++ open_text (spelling g.K.Lettered.rules g.P.Paired.rules) l.node;
}

abbrev pub decreases-loop-name : goal.decreases-loop-name
decreases-loop-name g l = length l.children
