-- Nodes of which a part is written.
-- Source: the continuation of a traversal, as in any textbook of algorithms.
use Rattle.std.specs.Prelude.{List, ℕ, [], ◌∷◌, ◌++◌, map}
use Rattle.md_tree.specs.declared.writer.Open.{Open}
use Rattle.md_tree.specs.Trees.{row}
use Rattle.md_tree.specs.Plain.{plain}
use Rattle.md_tree.specs.Spellings.{Spelling}
use Rattle.md_tree.specs.TreeTexts.{row_text_by, pairs_text_by}

-- what is left to write of an open node: the children that are still to come, the pairs, and the closing bracket
abbrev pub open_text : {K P : Type 0} → Spelling K P → Open K P → List ℕ
open_text sp o = row_text_by sp o.mark (row (map plain o.children.now)) ++ (pairs_text_by sp.pairs 59 o.pairs.now.list.items ++ 41 ∷ [])

-- what is left to write of nodes that are open in one another, the innermost last
abbrev pub rest_text : {K P : Type 0} → Spelling K P → List (Open K P) → List ℕ
rest_text sp [] = []
rest_text sp (o ∷ os) = rest_text sp os ++ open_text sp o
