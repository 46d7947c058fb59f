-- The reports of the trees of directed graphs: their lines and texts, their places, and which lines may come at each.
-- Source: this project's own format of reports.
use Rattle.std.specs.Prelude.{◌≡◌, ◌++◌, ℕ, List, [], ◌∷◌, codes, Option}
use Rattle.md_digraph.specs.PlainDigraph.{PlainDigraph, has_arc_to}
use Rattle.md_dtree.specs.DirectedTrees.{PlainDTree, IsDirectedTree}
use Rattle.md_dtree.specs.DirectedTexts.{directed_text_of}
use Rattle.md_report.specs.Protocols.{fed_by, LeadBy, IsReportBy, IsFrontBy}
use Rattle.md_checker.specs.declared.answer.CheckAnswer.{CheckAnswer}
use Rattle.md_checker.specs.Answers.{IsCheckAnswerBy}

-- the head, the tree of one directed graph, and the end
pub data DirectedLine : Type 0 where
  directed_head : DirectedLine
  directed_tree : Option PlainDTree → DirectedLine
  directed_end : DirectedLine

-- the text of a line, without a line feed
abbrev pub directed_line_text : DirectedLine → List ℕ
directed_line_text directed_head = codes "mdt dtree"
directed_line_text (directed_tree t) = codes "t " ++ directed_text_of t
directed_line_text directed_end = codes "end"

-- a line with its line feed
abbrev pub fed_directed_line : DirectedLine → List ℕ
fed_directed_line line = fed_by directed_line_text line

-- before the head; at the directed graphs that are still to be reported, one line each; and after the end
pub data DirectedPlace : Type 0 where
  before_directed : List PlainDigraph → DirectedPlace
  at_digraphs : List PlainDigraph → DirectedPlace
  after_directed : DirectedPlace

-- the line is one with the tree of strong modules of g
abbrev pub HasDirectedTree : PlainDigraph → DirectedLine → Type 0
HasDirectedTree g line = (t : Option PlainDTree) × IsDirectedTree (has_arc_to g) g.vertices t × (line ≡ directed_tree t)

-- the line may come at the place
abbrev pub MayComeDirected : DirectedPlace → DirectedLine → Type 0
MayComeDirected (before_directed digraphs) line = line ≡ directed_head
MayComeDirected (at_digraphs (g ∷ digraphs)) line = HasDirectedTree g line
MayComeDirected (at_digraphs []) line = line ≡ directed_end
MayComeDirected after_directed line = ⊥

-- the place behind a line that came at a place
abbrev pub next_directed : DirectedPlace → DirectedLine → DirectedPlace
next_directed (before_directed digraphs) line = at_digraphs digraphs
next_directed (at_digraphs (g ∷ digraphs)) line = at_digraphs digraphs
next_directed (at_digraphs []) line = after_directed
next_directed after_directed line = after_directed

-- the lines lead from one place to another: each may come where those before it lead
abbrev pub LeadDirected : DirectedPlace → List DirectedLine → DirectedPlace → Type 0
LeadDirected p lines q = LeadBy MayComeDirected next_directed p lines q

-- a whole report from a place on: lines that lead to the end, and their text
abbrev pub IsDirectedReport : DirectedPlace → List ℕ → Type 0
IsDirectedReport p bytes = IsReportBy MayComeDirected next_directed fed_directed_line after_directed p bytes

-- the beginning of a report from a place on: lines that lead somewhere, their text, and the beginning of a line that may come there
abbrev pub IsDirectedFront : DirectedPlace → List ℕ → Type 0
IsDirectedFront p bytes = IsFrontBy MayComeDirected next_directed fed_directed_line p bytes

-- the bytes are a whole valid report from a place on; or they aren't, and the line is told behind the longest first
-- part that they share with one
abbrev pub IsDirectedAnswer : DirectedPlace → List ℕ → CheckAnswer → Type 0
IsDirectedAnswer p bytes answer = IsCheckAnswerBy MayComeDirected next_directed fed_directed_line after_directed p bytes answer
