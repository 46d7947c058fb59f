-- The laws of reports of directed trees.
-- Source: this project's own format of reports.
use Rattle.std.specs.Prelude.{◌≡◌, ◌↔◌, ◌++◌, ℕ, List, [], ◌∷◌, map, Option}
use Rattle.std.specs.List.{flat_map}
use Rattle.md_digraph.specs.PlainDigraph.{PlainDigraph, has_arc_to}
use Rattle.md_dtree.specs.DirectedTrees.{PlainDTree, IsDirectedTree}
use Rattle.md_checker.specs.declared.answer.CheckAnswer.{CheckAnswer}
use Rattle.md_checker.specs.declared.answer.CheckAnswer.TheVariants.{Accepted}
use Rattle.md_dcheck.specs.DirectedReports.{DirectedLine, directed_head, directed_tree, directed_end, directed_line_text, fed_directed_line, DirectedPlace, before_directed, after_directed, LeadDirected, IsDirectedReport, IsDirectedFront, IsDirectedAnswer}

-- one tree for each directed graph, in their order: its tree of strong modules
abbrev pub AreTreesOf : List PlainDigraph → List (Option PlainDTree) → Type 0
AreTreesOf [] trees = trees ≡ []
AreTreesOf (g ∷ digraphs) [] = ⊥
AreTreesOf (g ∷ digraphs) (t ∷ trees) = IsDirectedTree (has_arc_to g) g.vertices t × AreTreesOf digraphs trees

-- the head, a line for each tree, and the end
abbrev pub trees_report : List (Option PlainDTree) → List DirectedLine
trees_report trees = directed_head ∷ (map directed_tree trees ++ directed_end ∷ [])

-- Lines lead from before the head to the end exactly where they are the report of the trees of the directed graphs.
abbrev pub DirectedReportsHaveTrees : Type 0
DirectedReportsHaveTrees =
    (digraphs : List PlainDigraph) (lines : List DirectedLine) →
    LeadDirected (before_directed digraphs) lines after_directed
    ↔ ((trees : List (Option PlainDTree)) × AreTreesOf digraphs trees × (lines ≡ trees_report trees))

-- The report of the right trees is accepted.
abbrev pub RightTreesAreAccepted : Type 0
RightTreesAreAccepted =
    (digraphs : List PlainDigraph) (trees : List (Option PlainDTree)) (answer : CheckAnswer) → AreTreesOf digraphs trees →
    IsDirectedAnswer (before_directed digraphs) (flat_map fed_directed_line (trees_report trees)) answer → answer ≡ Accepted

-- Bytes have one answer at most.
abbrev pub OneDirectedAnswer : Type 0
OneDirectedAnswer =
    (p : DirectedPlace) (bytes : List ℕ) (a b : CheckAnswer) → IsDirectedAnswer p bytes a → IsDirectedAnswer p bytes b → a ≡ b

-- Lines lead somewhere exactly where they are the first lines of a whole report.
abbrev pub DirectedLinesLeadIfFirst : Type 0
DirectedLinesLeadIfFirst =
    (p : DirectedPlace) (lines : List DirectedLine) →
    ((q : DirectedPlace) × LeadDirected p lines q) ↔ ((more : List DirectedLine) × LeadDirected p (lines ++ more) after_directed)

-- Bytes are the front of a report by places exactly where a whole report begins with them.
abbrev pub DirectedFrontsBeginReports : Type 0
DirectedFrontsBeginReports =
    (p : DirectedPlace) (bytes : List ℕ) → IsDirectedFront p bytes ↔ ((rest : List ℕ) × IsDirectedReport p (bytes ++ rest))

-- Each text is of one line at most.
abbrev pub OneDirectedLineOneText : Type 0
OneDirectedLineOneText = (k l : DirectedLine) → directed_line_text k ≡ directed_line_text l → k ≡ l
