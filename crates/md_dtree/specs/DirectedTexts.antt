-- The texts of trees of directed graphs, and the answers of their reader.
-- Source: this project's own format of trees.
use Rattle.std.specs.Prelude.{ℕ, List, Option, Result}
use Rattle.md_digraph.specs.declared.TheConstants.{DIRECTED_NAMES}
use Rattle.md_tree.specs.declared.TreeOf.{TreeOf}
use Rattle.md_tree.specs.declared.reader.TreeFault.{TreeFault}
use Rattle.md_tree.specs.Reading.{IsTreeReadingBelow}
use Rattle.md_tree.specs.TreeTexts.{text_of_by}
use Rattle.md_dtree.specs.declared.DKind.{DKind}
use Rattle.md_dtree.specs.declared.DPair.{DPair}
use Rattle.md_dtree.specs.DirectedSpelling.{directed_spelling}
use Rattle.md_dtree.specs.DirectedTrees.{PlainDTree}

-- the text of a tree: `P(`, `S(`, `O(` or `R(`, and so on; the word `empty` where there is none
abbrev pub directed_text_of : Option PlainDTree → List ℕ
directed_text_of = text_of_by directed_spelling

-- the answers for the texts of trees of directed graphs
abbrev pub IsDirectedReading :
    List ℕ → Result (Option (TreeOf DKind DPair)) TreeFault → Type 0
IsDirectedReading = IsTreeReadingBelow directed_spelling DIRECTED_NAMES
