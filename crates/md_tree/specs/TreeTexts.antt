-- The text of a tree: a name in digits; a node as its letter, its children between commas in brackets, and the pairs that
-- it lists behind a semicolon. Source: this project's own format of trees.
use Rattle.std.specs.Prelude.{ℕ, List, [], ◌∷◌, ◌++◌, codes, Option, Some, None}
use Rattle.md_text.specs.Numbers.{decimal}
use Rattle.md_tree.specs.declared.Pair.{Pair}
use Rattle.md_tree.specs.Trees.{PlainTreeOf, PlainTreesOf, leaf, node, PlainTree, PlainTrees, no_tree, one_more}
use Rattle.md_tree.specs.Spellings.{Spelling, PairRules, graph_spelling, graph_pairs}

-- each pair as its two positions in digits with their mark between; the mark given stands before the first pair, a comma
-- before each other one
abbrev pub pairs_text_by : {P : Type 0} → PairRules P → ℕ → List P → List ℕ
pairs_text_by r mark [] = []
pairs_text_by r mark (p ∷ ps) = mark ∷ (decimal (r.first p) ++ r.between ∷ (decimal (r.second p) ++ pairs_text_by r 44 ps))

abbrev mutual
  -- the text of a tree: the letter and `(`, the children, `;` and the pairs if there are some, and `)`
  pub tree_text_by : {K P : Type 0} → Spelling K P → PlainTreeOf K P → List ℕ
  tree_text_by sp (leaf v) = decimal v
  tree_text_by sp (node k cs ps) = sp.kinds.letter k ∷ (row_text_by sp 40 cs ++ (pairs_text_by sp.pairs 59 ps ++ 41 ∷ []))

  -- the texts of trees; the mark stands before the first, a comma before each other one
  pub row_text_by : {K P : Type 0} → Spelling K P → ℕ → PlainTreesOf K P → List ℕ
  row_text_by sp mark no_tree = []
  row_text_by sp mark (one_more t ts) = mark ∷ (tree_text_by sp t ++ row_text_by sp 44 ts)

-- the text of a tree: the word `empty` where there is none
abbrev pub text_of_by : {K P : Type 0} → Spelling K P → Option (PlainTreeOf K P) → List ℕ
text_of_by sp None = codes "empty"
text_of_by sp (Some t) = tree_text_by sp t

-- the pairs of a graph's tree, as `0-2`
abbrev pub pairs_text : ℕ → List Pair → List ℕ
pairs_text = pairs_text_by graph_pairs

-- the text of a graph's tree: `P(`, `S(` or `R(`, and so on
abbrev pub tree_text : PlainTree → List ℕ
tree_text = tree_text_by graph_spelling

-- the texts of such trees
abbrev pub row_text : ℕ → PlainTrees → List ℕ
row_text = row_text_by graph_spelling

-- the text of a graph's tree: the word `empty` where there is none
abbrev pub text_of : Option PlainTree → List ℕ
text_of = text_of_by graph_spelling
