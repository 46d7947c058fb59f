-- A session on cographs from the graph without vertices over edits that a number alone gives, and the numbers that are told of it.
-- Source: Shamir and Sharan, A fully dynamic algorithm for modular decomposition and recognition of cographs; the edits are this project's.
use Rattle.std.specs.Prelude.{◌≡◌, ℕ, zero, suc, ◌%◌, ◌==◌, ◌&&◌, Bool, nat_le, List, [], ◌∷◌, ◌++◌, map, codes, Option, if◌then◌else◌}
use Rattle.std.specs.FinSet as set
use Rattle.md_text.specs.Numbers.{decimal}
use Rattle.md_graph.specs.PlainGraph.{PlainGraph, adjacent, empty_graph}
use Rattle.md_graph.specs.Sets.{NameSet}
use Rattle.md_graph.specs.NameSet.{ascending, range}
use Rattle.md_tree.specs.Trees.{PlainTree, nodes_in}
use Rattle.md_tree.specs.StrongTrees.{IsTree}
use Rattle.md_script.specs.declared.edit.Edit.{Edit}
use Rattle.md_script.specs.declared.edit.Edit.TheVariants.{DelEdge, AddVertex, DelVertex}
use Rattle.md_script.specs.declared.item.Item.TheVariants.{One}
use Rattle.md_report.specs.declared.line.SessionMode.TheVariants.{Quiet}
use Rattle.md_report.specs.Lines.{PlainLine}
use Rattle.md_report.specs.Sessions.{State, last_state, count_applied, count_refused}
use Rattle.md_report.specs.ItemLines.{Run}
use Rattle.md_top.specs.declared.big.Numbers.{Numbers}

-- the edits at each name below a number, one name after the other
abbrev pub edits_below : (ℕ → List Edit) → ℕ → List Edit
edits_below edits_at zero = []
edits_below edits_at (suc v) = edits_below edits_at v ++ edits_at v

-- whether a name is odd
abbrev pub is_odd : ℕ → Bool
is_odd v = v % 2 == 1

-- the neighbours of a new name: every name before it if it is odd, else none
abbrev pub neighbours_before : ℕ → NameSet
neighbours_before v = if is_odd v then range 0 v else set.empty

-- the edit that takes in a name
abbrev pub insertion : ℕ → Edit
insertion v = AddVertex v (ascending (neighbours_before v))

-- the edits that leave out the edge between 1 and a name: one where the name is odd and at least 3
abbrev pub cuts_at : ℕ → List Edit
cuts_at v = if nat_le 3 v && is_odd v then DelEdge 1 v ∷ [] else []

-- the edits that leave out a name: one where it is even
abbrev pub deletions_at : ℕ → List Edit
deletions_at v = if v % 2 == 0 then DelVertex v ∷ [] else []

-- the edits for a size: each name below it is taken in; the edges between 1 and them are left out; the even ones are left out
abbrev pub inserts : ℕ → List Edit
inserts size = edits_below (λ v. insertion v ∷ []) size

abbrev pub cuts : ℕ → List Edit
cuts size = edits_below cuts_at size

abbrev pub deletions : ℕ → List Edit
deletions size = edits_below deletions_at size

-- The run of a session on cographs over edits, each an item, that leads from one state to another, by its lines in mode quiet: so many
-- edits are applied, and so many aren't.
pub record Runs (s : State) (edits : List Edit) (done undone : ℕ) (t : State) : Type 0 where
  pub lines : List PlainLine
  pub run : Run Quiet s (map One edits) lines
  pub done_is : done ≡ count_applied lines
  pub undone_is : undone ≡ count_refused lines
  pub last : t ≡ last_state s (map One edits) lines

-- the same from the graph g to the graph h, whatever the earlier graphs are
abbrev pub RunsTo : PlainGraph → List Edit → ℕ → ℕ → PlainGraph → Type 0
RunsTo g edits done undone h =
    (earlier : List PlainGraph) → (later : List PlainGraph) × Runs (record { graph = g; earlier = earlier }) edits done undone (record { graph = h; earlier = later })

-- the tree of strong modules of g has n nodes
abbrev pub HasNodes : PlainGraph → ℕ → Type 0
HasNodes g n = (t : Option PlainTree) → IsTree (adjacent g) g.vertices t → n ≡ nodes_in t

-- The numbers are those of the run over the edits for a size: all names below it are taken in, the graph is then cut, and its even names
-- are left out. The run is told in mode quiet; one in mode cograph has the same numbers, by the law `cograph_runs_apply_alike` of md_report.
pub record AreNumbersOf (size : ℕ) (n : Numbers) : Type 0 where
  pub full : PlainGraph
  pub cut : PlainGraph
  pub last : PlainGraph
  pub not_inserted : ℕ
  pub cut_off : ℕ
  pub deleted : ℕ
  pub not_deleted : ℕ
  pub inserting : RunsTo empty_graph (inserts size) n.inserted not_inserted full
  pub cutting : RunsTo full (cuts size) cut_off n.refused cut
  pub deleting : RunsTo cut (deletions size) deleted not_deleted last
  pub nodes : HasNodes cut n.nodes
  pub left : n.left ≡ set.len last.vertices
  pub left_nodes : HasNodes last n.left_nodes

-- the line that tells them
abbrev pub numbers_line : Numbers → List ℕ
numbers_line n =
    codes "inserted " ++ decimal n.inserted ++ codes " refused " ++ decimal n.refused ++ codes " nodes " ++ decimal n.nodes
    ++ codes " left " ++ decimal n.left ++ codes " nodes " ++ decimal n.left_nodes ++ codes "\n"
