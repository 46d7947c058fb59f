-- Well-formed lines, and what reading a line says.
-- Source: this project's own format of reports.
use Rattle.std.specs.Prelude.{◌≡◌, ◌≢◌, ℕ, ◌<◌, ◌≤◌, List, [], ◌∷◌, Result, Ok, Err, ⊤}
use Rattle.std.specs.List.{All}
use Rattle.md_graph.specs.declared.TheConstants.{NAMES}
use Rattle.md_forcing.specs.declared.arc.Arc.{Arc}
use Rattle.md_modules.specs.declared.induced_paths.P4.{P4}
use Rattle.md_bar_tree.specs.declared.BarKind.{BarKind}
use Rattle.md_bar_tree.specs.declared.BarKind.TheVariants as kinds
use Rattle.md_bar_tree.specs.declared.Bar.{Bar}
use Rattle.md_bar_tree.specs.Bars.{AreDifferent}
use Rattle.md_bar_tree.specs.Edges.{IsCycleOrder, IsPairOrder}
use Rattle.md_tree.specs.WellFormed.{IsWellFormed}
use Rattle.md_script.specs.declared.TheConstants.{EDITS}
use Rattle.md_script.specs.declared.edit.EditReason.{EditReason}
use Rattle.md_script.specs.declared.edit.EditReason.TheVariants.{Same, NoVertex, NameTaken, EdgeThere, EdgeAbsent}
use Rattle.md_report.specs.declared.line.Line.{Line}
use Rattle.md_report.specs.declared.reader.LineFault.{LineFault}
use Rattle.md_report.specs.declared.reader.LineFault.TheVariants.{Syntax, Memory}
use Rattle.md_report.specs.Lines.{PlainLine, plain_line, line_text, path_of_bar, head, head_class, tree, applied, applied_quiet, refused, refused_bar, group_refused, group_refused_bar, nothing_to_undo, barred, oriented, forced, orders, forced_in, forced_in_complement, end}

-- the number is a name
abbrev pub IsVertexName : ℕ → Type 0
IsVertexName v = v < NAMES

-- the arc leads from a name to another one
pub record IsNamedArc (a : Arc) : Type 0 where
  pub tail : IsVertexName a.tail
  pub head : IsVertexName a.head
  pub differ : a.tail ≢ a.head

-- arcs, at least one, each from a name to another one
pub record IsNamedChain (chain : List Arc) : Type 0 where
  pub some : chain ≢ []
  pub arcs : All IsNamedArc chain

-- the four names differ, and the first is below the last
abbrev pub AreFour : P4 → Type 0
AreFour p = ((p.a ≢ p.b) × (p.a ≢ p.c) × (p.a < p.d)) × ((p.b ≢ p.c) × (p.b ≢ p.d) × (p.c ≢ p.d))

-- four different names, the first below the last
pub record IsNamedP4 (p : P4) : Type 0 where
  pub names : All IsVertexName (p.a ∷ p.b ∷ p.c ∷ p.d ∷ [])
  pub four : AreFour p

-- the names stand in the order of their kind: the ends of a path, a cycle from its least one, the smaller end of each edge first
abbrev pub IsBarOrder : BarKind → ℕ → ℕ → ℕ → ℕ → Type 0
IsBarOrder kinds.P4 a b c d = a < d
IsBarOrder kinds.C4 a b c d = IsCycleOrder a b c d
IsBarOrder kinds.TwoK2 a b c d = IsPairOrder a b c d

-- four different names, in the order of their kind
pub record IsNamedBar (bar : Bar) : Type 0 where
  pub names : All IsVertexName (bar.a ∷ bar.b ∷ bar.c ∷ bar.d ∷ [])
  pub different : AreDifferent bar.a bar.b bar.c bar.d
  pub order : IsBarOrder bar.kind bar.a bar.b bar.c bar.d

-- a bar of which the program's lines tell: four different names of an induced P4, the first below the last
abbrev pub IsNamedPath : Bar → Type 0
IsNamedPath bar = (bar.kind ≡ kinds.P4) × IsNamedP4 (path_of_bar bar)

-- the number that a reason names is a name
abbrev pub IsNamedReason : EditReason → Type 0
IsNamedReason Same = ⊤
IsNamedReason (NoVertex v) = IsVertexName v
IsNamedReason (NameTaken v) = IsVertexName v
IsNamedReason EdgeThere = ⊤
IsNamedReason EdgeAbsent = ⊤

-- the number counts an edit of a group, from 1
abbrev pub IsEditNumber : ℕ → Type 0
IsEditNumber n = (0 < n) × (n ≤ EDITS)

-- the line is one of the program's: its trees are well-formed, what it names are names, the ends of each arc differ, a chain has an
-- arc, a bar is an induced P4 of four different names, the first below the last, and the number of an edit of a group is one
abbrev pub IsWellFormedLine : PlainLine → Type 0
IsWellFormedLine (head mode) = ⊤
IsWellFormedLine (head_class class) = ⊥
IsWellFormedLine (tree t) = IsWellFormed t
IsWellFormedLine (applied t) = IsWellFormed t
IsWellFormedLine applied_quiet = ⊤
IsWellFormedLine (refused reason) = IsNamedReason reason
IsWellFormedLine (refused_bar bar) = IsNamedPath bar
IsWellFormedLine (group_refused number reason) = IsEditNumber number × IsNamedReason reason
IsWellFormedLine (group_refused_bar number bar) = IsEditNumber number × IsNamedPath bar
IsWellFormedLine nothing_to_undo = ⊤
IsWellFormedLine (barred bar) = IsNamedPath bar
IsWellFormedLine (oriented arcs) = All IsNamedArc arcs
IsWellFormedLine (forced chain) = IsNamedChain chain
IsWellFormedLine (orders first second) = All IsVertexName first × All IsVertexName second
IsWellFormedLine (forced_in chain) = IsNamedChain chain
IsWellFormedLine (forced_in_complement chain) = IsNamedChain chain
IsWellFormedLine end = ⊤

-- what reading says of bytes: the well-formed line with this text; or that no well-formed line has it
abbrev pub IsLineReading : List ℕ → Result Line LineFault → Type 0
IsLineReading bytes (Ok line) = IsWellFormedLine (plain_line line) × (bytes ≡ line_text (plain_line line))
IsLineReading bytes (Err Syntax) = (line : PlainLine) → IsWellFormedLine line → bytes ≢ line_text line
IsLineReading bytes (Err Memory) = ⊤
