-- The directed graphs that are left to a report, the first of them at hand or not. Only private contracts cite it.
-- Source: this project's own format of reports.
use Rattle.std.specs.Prelude.{◌≡◌, ℕ, Bool, true, false, List, ◌∷◌, Option}
use Rattle.md_digraph.specs.PlainDigraph.{PlainDigraph, has_arc_to}
use Rattle.md_dtree.specs.DirectedTrees.{PlainDTree, IsDirectedTree}
use Rattle.md_dtree.specs.DirectedTexts.{directed_text_of}
use Rattle.md_dcheck.specs.declared.directed_checker.DirectedDue.{DirectedDue}
use Rattle.md_dcheck.specs.declared.directed_checker.DirectedDue.TheVariants.{Head, Digraphs, Nothing}
use Rattle.md_dcheck.specs.DirectedReports.{DirectedPlace, before_directed, at_digraphs, after_directed}

-- the one at hand, if it is there, and those behind it
abbrev pub digraphs_left : Bool → PlainDigraph → List PlainDigraph → List PlainDigraph
digraphs_left true g behind = g ∷ behind
digraphs_left false g behind = behind

-- the place by what is due, where these are left
abbrev pub directed_place : DirectedDue → List PlainDigraph → DirectedPlace
directed_place Head digraphs = before_directed digraphs
directed_place Digraphs digraphs = at_digraphs digraphs
directed_place Nothing digraphs = after_directed

-- the text is that of the tree of the directed graph
abbrev pub HasTreeText : PlainDigraph → List ℕ → Type 0
HasTreeText g text = (t : Option PlainDTree) × IsDirectedTree (has_arc_to g) g.vertices t × (text ≡ directed_text_of t)
