-- The lines of a report, and their texts.
-- Source: this project's own format of reports.
use Rattle.std.specs.Prelude.{ℕ, List, ◌∷◌, [], ◌++◌, codes, Option, Some, None, find}
use Rattle.std.specs.Str.{bytes_eq}
use Rattle.std.specs.List.{flat_map}
use Rattle.md_graph.specs.declared.TheConstants.{NAMES}
use Rattle.md_text.specs.Numbers.{decimal}
use Rattle.md_forcing.specs.declared.arc.Arc.{Arc}
use Rattle.md_modules.specs.declared.induced_paths.P4.{P4}
use Rattle.md_bar_tree.specs.declared.Class.{Class}
use Rattle.md_bar_tree.specs.declared.Class.TheVariants.{Trivial, Threshold}
use Rattle.md_bar_tree.specs.declared.BarKind.{BarKind}
use Rattle.md_bar_tree.specs.declared.BarKind.TheVariants as kinds
use Rattle.md_bar_tree.specs.declared.Bar.{Bar}
use Rattle.md_tree.specs.Trees.{PlainTree}
use Rattle.md_tree.specs.Plain.{plain_option}
use Rattle.md_tree.specs.TreeTexts.{text_of}
use Rattle.md_script.specs.declared.edit.EditReason.{EditReason}
use Rattle.md_script.specs.declared.edit.EditReason.TheVariants.{Same, NoVertex, NameTaken, EdgeThere, EdgeAbsent}
use Rattle.md_report.specs.declared.line.TheConstants.{ORIENTED}
use Rattle.md_report.specs.declared.line.GraphMode.{GraphMode}
use Rattle.md_report.specs.declared.line.GraphMode.TheVariants as graph_modes
use Rattle.md_report.specs.declared.line.SessionMode.{SessionMode}
use Rattle.md_report.specs.declared.line.SessionMode.TheVariants as session_modes
use Rattle.md_report.specs.declared.line.Mode.{Mode}
use Rattle.md_report.specs.declared.line.Mode.TheVariants as modes
use Rattle.md_report.specs.declared.line.Line.{Line}
use Rattle.md_report.specs.declared.line.Line.TheVariants as lines
use Rattle.md_report.specs.Protocols.{fed_by}

-- the bar that an induced P4 is
abbrev pub path_bar : P4 → Bar
path_bar p = record { kind = kinds.P4; a = p.a; b = p.b; c = p.c; d = p.d }

-- the four names of a bar, as those of an induced P4
abbrev pub path_of_bar : Bar → P4
path_of_bar bar = record { a = bar.a; b = bar.b; c = bar.c; d = bar.d }

-- a line, with plain trees; its bar is an induced P4, or a bar of a class
pub data PlainLine : Type 0 where
  head : Mode → PlainLine
  head_class : Class → PlainLine
  tree : Option PlainTree → PlainLine
  applied : Option PlainTree → PlainLine
  applied_quiet : PlainLine
  refused : EditReason → PlainLine
  refused_bar : Bar → PlainLine
  group_refused : ℕ → EditReason → PlainLine
  group_refused_bar : ℕ → Bar → PlainLine
  nothing_to_undo : PlainLine
  barred : Bar → PlainLine
  oriented : List Arc → PlainLine
  forced : List Arc → PlainLine
  orders : List ℕ → List ℕ → PlainLine
  forced_in : List Arc → PlainLine
  forced_in_complement : List Arc → PlainLine
  end : PlainLine

-- the line that refuses an edit with an induced P4
abbrev pub refused_p4 : P4 → PlainLine
refused_p4 p = refused_bar (path_bar p)

-- the line that refuses the edit of a group with this number with an induced P4
abbrev pub group_refused_p4 : ℕ → P4 → PlainLine
group_refused_p4 number p = group_refused_bar number (path_bar p)

-- the line that tells of an induced P4 of the first graph
abbrev pub not_cograph : P4 → PlainLine
not_cograph p = barred (path_bar p)

-- the plain line that a line of the program is
abbrev pub plain_line : Line → PlainLine
plain_line (lines.Head mode) = head mode
plain_line (lines.Tree t) = tree (plain_option t)
plain_line (lines.Applied t) = applied (plain_option t)
plain_line lines.AppliedQuiet = applied_quiet
plain_line (lines.Refused reason) = refused reason
plain_line (lines.RefusedP4 p) = refused_p4 p
plain_line (lines.GroupRefused number reason) = group_refused number reason
plain_line (lines.GroupRefusedP4 number p) = group_refused_p4 number p
plain_line lines.NothingToUndo = nothing_to_undo
plain_line (lines.NotCograph p) = not_cograph p
plain_line (lines.Oriented arcs) = oriented arcs
plain_line (lines.Forced chain) = forced chain
plain_line (lines.Orders first second) = orders first second
plain_line (lines.ForcedIn chain) = forced_in chain
plain_line (lines.ForcedInComplement chain) = forced_in_complement chain
plain_line lines.End = end

-- what a report over graphs is about
abbrev pub mode_of : GraphMode → Mode
mode_of graph_modes.Tree = modes.Tree
mode_of graph_modes.Compare = modes.Compare
mode_of graph_modes.Shortest = modes.Compare
mode_of graph_modes.Permute = modes.Permute

-- the limit of names of the graphs of a report
abbrev pub limit_of_mode : GraphMode → ℕ
limit_of_mode graph_modes.Tree = NAMES
limit_of_mode graph_modes.Compare = ORIENTED
limit_of_mode graph_modes.Shortest = ORIENTED
limit_of_mode graph_modes.Permute = ORIENTED

-- the first line of a report of a session
abbrev pub session_head : SessionMode → PlainLine
session_head session_modes.Edit = head modes.Edit
session_head session_modes.Cograph = head modes.Cograph
session_head session_modes.Quiet = head modes.Quiet
session_head (session_modes.Of class) = head_class class

-- the word of a mode
abbrev pub mode_word : Mode → List ℕ
mode_word modes.Tree = codes "tree"
mode_word modes.Edit = codes "edit"
mode_word modes.Cograph = codes "cograph"
mode_word modes.Compare = codes "compare"
mode_word modes.Permute = codes "permute"
mode_word modes.Quiet = codes "quiet"

-- the word of a class
abbrev pub class_word : Class → List ℕ
class_word Trivial = codes "trivial"
class_word Threshold = codes "threshold"

-- the class with this word
abbrev pub class_of_word : List ℕ → Option Class
class_of_word word = find (λ class. bytes_eq word (class_word class)) (Trivial ∷ Threshold ∷ [])

-- all modes
abbrev pub all_modes : List Mode
all_modes = modes.Tree ∷ modes.Edit ∷ modes.Cograph ∷ modes.Compare ∷ modes.Permute ∷ modes.Quiet ∷ []

-- the mode with this word
abbrev pub mode_of_word : List ℕ → Option Mode
mode_of_word word = find (λ mode. bytes_eq word (mode_word mode)) all_modes

-- the mode of reports over graphs that a mode is
abbrev pub as_graph_mode : Mode → Option GraphMode
as_graph_mode modes.Tree = Some graph_modes.Tree
as_graph_mode modes.Compare = Some graph_modes.Compare
as_graph_mode modes.Permute = Some graph_modes.Permute
as_graph_mode mode = None

-- the mode of reports of sessions that a mode is
abbrev pub as_session_mode : Mode → Option SessionMode
as_session_mode modes.Edit = Some session_modes.Edit
as_session_mode modes.Cograph = Some session_modes.Cograph
as_session_mode modes.Quiet = Some session_modes.Quiet
as_session_mode mode = None

-- the words of a reason
abbrev pub reason_words : EditReason → List ℕ
reason_words Same = codes "same"
reason_words (NoVertex v) = codes "vertex " ++ decimal v
reason_words (NameTaken v) = codes "taken " ++ decimal v
reason_words EdgeThere = codes "edge-there"
reason_words EdgeAbsent = codes "edge-absent"

-- a space and a name, for each name
abbrev pub names_text : List ℕ → List ℕ
names_text = flat_map (λ v. codes " " ++ decimal v)

-- the four names of an induced P4, in their order
abbrev pub p4_text : P4 → List ℕ
p4_text p = names_text (p.a ∷ p.b ∷ p.c ∷ p.d ∷ [])

-- the word of a kind of bars
abbrev pub bar_word : BarKind → List ℕ
bar_word kinds.P4 = codes "p4"
bar_word kinds.C4 = codes "c4"
bar_word kinds.TwoK2 = codes "2k2"

-- the text of a bar: the word of its kind, and its four names in their order
abbrev pub bar_text : Bar → List ℕ
bar_text bar = bar_word bar.kind ++ names_text (bar.a ∷ bar.b ∷ bar.c ∷ bar.d ∷ [])

-- the text of an arc: its tail, its mark and its head
abbrev pub arc_text : Arc → List ℕ
arc_text a = decimal a.tail ++ (codes ">" ++ decimal a.head)

-- a space and an arc, for each arc
abbrev pub arcs_text : List Arc → List ℕ
arcs_text = flat_map (λ a. codes " " ++ arc_text a)

-- the text of a line, without a line feed
abbrev pub line_text : PlainLine → List ℕ
line_text (head mode) = codes "mdt " ++ mode_word mode
line_text (head_class class) = codes "mdt " ++ class_word class
line_text (tree t) = codes "t " ++ text_of t
line_text (applied t) = codes "ok " ++ text_of t
line_text applied_quiet = codes "ok"
line_text (refused reason) = codes "no " ++ reason_words reason
line_text (refused_bar bar) = codes "no " ++ bar_text bar
line_text (group_refused number reason) = codes "no edit " ++ (decimal number ++ (codes " " ++ reason_words reason))
line_text (group_refused_bar number bar) = codes "no edit " ++ (decimal number ++ (codes " " ++ bar_text bar))
line_text nothing_to_undo = codes "no undo"
line_text (barred bar) = bar_text bar
line_text (oriented arcs) = codes "yes" ++ arcs_text arcs
line_text (forced chain) = codes "no" ++ arcs_text chain
line_text (orders first second) = codes "yes" ++ (names_text first ++ (codes " /" ++ names_text second))
line_text (forced_in chain) = codes "no g" ++ arcs_text chain
line_text (forced_in_complement chain) = codes "no c" ++ arcs_text chain
line_text end = codes "end"

-- a line with its line feed
abbrev pub fed_line : PlainLine → List ℕ
fed_line line = fed_by line_text line

-- the text of lines, each with its line feed
abbrev pub lines_text : List PlainLine → List ℕ
lines_text = flat_map fed_line
