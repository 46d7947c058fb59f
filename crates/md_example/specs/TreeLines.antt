-- The trees of directed graphs as lines of a text.
-- Source: this project's own format of trees.
use Rattle.std.specs.Prelude.{◌≡◌, ℕ, List, [], ◌∷◌, ◌++◌, Option}
use Rattle.md_digraph.specs.PlainDigraph.{PlainDigraph, has_arc_to}
use Rattle.md_dtree.specs.DirectedTexts.{directed_text_of}
use Rattle.md_dtree.specs.DirectedTrees.{PlainDTree, IsDirectedTree}

-- `after` is `before` and behind it, for each of the directed graphs, the text of its tree and a
-- line feed
abbrev pub PutsTreeLines : List PlainDigraph → List ℕ → List ℕ → Type 0
PutsTreeLines [] before after = after ≡ before
PutsTreeLines (g ∷ gs) before after =
    (tree : Option PlainDTree) × IsDirectedTree (has_arc_to g) g.vertices tree
    × PutsTreeLines gs (before ++ directed_text_of tree ++ 10 ∷ []) after

-- the text has for each of the directed graphs a line, with the text of its tree
abbrev pub AreTreeLines : List PlainDigraph → List ℕ → Type 0
AreTreeLines gs text = PutsTreeLines gs [] text
