-- The text of a tree of a graph that may be a state of a session.
-- Source: this project's own format of reports.
use Rattle.std.specs.Prelude.{◌≡◌, ◌<◌, ℕ, List, ◌++◌, length, get_or, Option, None, IsSome}
use Rattle.md_graph.specs.PlainGraph.{PlainGraph, adjacent}
use Rattle.md_tree.specs.Trees.{PlainTree}
use Rattle.md_tree.specs.StrongTrees.{IsTreeOf}
use Rattle.md_tree.specs.TreeTexts.{tree_text}
use Rattle.md_report.specs.declared.line.SessionMode.{SessionMode}
use Rattle.md_report.specs.ItemLines.{IsAllowed}

-- the text is the word and behind it that of the tree of g, which may be a state of a session of the mode
pub record IsStateText (mode : SessionMode) (g : PlainGraph) (word text : List ℕ) : Type 0 where
  pub allowed : IsAllowed mode g
  pub tree : PlainTree
  pub fits : IsTreeOf (adjacent g) g.vertices tree
  pub spelled : text ≡ word ++ tree_text tree

-- at most one of the roots is that of a node
abbrev pub HasOneNode : {K : Type 0} → List (Option K) → Type 0
HasOneNode roots = (i j : ℕ) → i < j → j < length roots → IsSome (get_or roots i None) → IsSome (get_or roots j None) → ⊥
