-- Edits that are taken back: of each edit the one that gives the graph before it again.
-- Source: the plain changes of the sets of vertices and edges.
use Rattle.std.specs.Prelude.{◌≡◌, ℕ, ◌≤◌, List, [], ◌∷◌, length, take, None, ⊤}
use Rattle.md_graph.specs.NameSet.{ascending}
use Rattle.md_graph.specs.PlainGraph.{PlainGraph, IsGraph, neighbours}
use Rattle.md_script.specs.declared.edit.Edit.{Edit}
use Rattle.md_script.specs.declared.edit.Edit.TheVariants.{AddEdge, DelEdge, AddVertex, DelVertex}
use Rattle.md_script.specs.declared.past.PastOf.{PastOf}
use Rattle.md_script.specs.declared.past.PastOf.TheVariants as past
use Rattle.md_script.specs.Edit.{HasNamesBelow, reason_of, after}

-- the edit of the graph after an edit that gives g again
abbrev pub inverse_of : PlainGraph → Edit → Edit
inverse_of g (AddEdge u v) = DelEdge u v
inverse_of g (DelEdge u v) = AddEdge u v
inverse_of g (AddVertex x list) = DelVertex x
inverse_of g (DelVertex x) = AddVertex x (ascending (neighbours g x))

-- the edit that is kept to take another back: the neighbours of a new vertex are the members of its set
abbrev pub as_edit : {w : ℕ} → PastOf w → Edit
as_edit (past.AddEdge u v) = AddEdge u v
as_edit (past.DelEdge u v) = DelEdge u v
as_edit (past.AddVertex x names) = AddVertex x (ascending names)
as_edit (past.DelVertex x) = DelVertex x

-- the second edit has names below a limit, may be applied behind the first, and then gives g again
pub record TakesBack (limit : ℕ) (g : PlainGraph) (edit back : Edit) : Type 0 where
  pub names : HasNamesBelow limit back
  pub no_reason : reason_of (after g edit) back ≡ None
  pub gives : after (after g edit) back ≡ g

-- an edit with names below a limit, which may be applied to the graph g, led to h
pub record Led (limit : ℕ) (g : PlainGraph) (edit : Edit) (h : PlainGraph) : Type 0 where
  pub is_graph : IsGraph g
  pub names : HasNamesBelow limit edit
  pub no_reason : reason_of g edit ≡ None
  pub next_is : h ≡ after g edit

-- the graph behind edits that are applied, the first one first; and behind edits that are taken back, the last one first
abbrev pub all_after : PlainGraph → List Edit → PlainGraph
all_after g [] = g
all_after g (edit ∷ edits) = all_after (after g edit) edits

abbrev pub taken_back : PlainGraph → List Edit → PlainGraph
taken_back g [] = g
taken_back g (edit ∷ edits) = after (taken_back g edits) edit

-- the edits that take back edits that are applied to g, one behind the other
abbrev pub inverses_of : PlainGraph → List Edit → List Edit
inverses_of g [] = []
inverses_of g (edit ∷ edits) = inverse_of g edit ∷ inverses_of (after g edit) edits

-- no reason speaks against each edit in its turn, and each gives a graph of those that may be kept
abbrev pub Applies : (PlainGraph → Type 0) → PlainGraph → List Edit → Type 0
Applies Kept g [] = ⊤
Applies Kept g (edit ∷ edits) = (reason_of g edit ≡ None) × (Kept (after g edit) × Applies Kept (after g edit) edits)

-- edits can be taken back, the last one first: no reason speaks against each in its turn, its names are below a limit, and it gives a graph
-- of those that may be kept
abbrev pub MayBack : ℕ → (PlainGraph → Type 0) → PlainGraph → List Edit → Type 0
MayBack limit Kept g [] = ⊤
MayBack limit Kept g (edit ∷ edits) =
    MayBack limit Kept g edits
    × ((reason_of (taken_back g edits) edit ≡ None) × (HasNamesBelow limit edit × Kept (after (taken_back g edits) edit)))

-- any graph may be kept
abbrev pub AnyGraph : PlainGraph → Type 0
AnyGraph g = ⊤

-- the first n of the edits were applied to g, which gave h; they are taken back by others
pub record HasApplied (Kept : PlainGraph → Type 0) (g : PlainGraph) (edits : List Edit) (h : PlainGraph) (back : List Edit) (n : ℕ) : Type 0 where
  pub within : n ≤ length edits
  pub applies : Applies Kept g (take n edits)
  pub graph_is : h ≡ all_after g (take n edits)
  pub back_is : back ≡ inverses_of g (take n edits)
