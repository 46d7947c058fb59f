-- Histories: what the items that were applied are taken back by.
-- Source: the undo lists of editors of texts, as in any textbook of data structures.
use Rattle.std.specs.Prelude.{◌≡◌, ℕ, ◌+◌, ◌<◌, ◌≤◌, ◌⊎◌, List, [], ◌∷◌, map, reverse, take, drop, get_or, ⊤, refl}
use Rattle.std.specs.FinSet as set
use Rattle.std.specs.Coded.{Coded, code_by, coded_ℕ, coded_list, coded×, coded⊎}
use Rattle.std.proofs.Common.{inl, inr}
use Rattle.md_graph.specs.PlainGraph.{PlainGraph}
use Rattle.md_graph.specs.Sets.{NameSet}
use Rattle.md_script.specs.declared.edit.Edit.{Edit}
use Rattle.md_script.specs.declared.edit.Edit.TheVariants.{AddEdge, DelEdge, AddVertex, DelVertex}
use Rattle.md_script.specs.declared.history.KeptEdit.{KeptEdit}
use Rattle.md_script.specs.declared.history.KeptEdit.TheVariants as kept
use Rattle.md_script.specs.declared.past.PastOf.{PastOf}
use Rattle.md_script.specs.declared.past.PastOf.TheVariants as past
use Rattle.md_script.specs.Pasts.{as_edit, taken_back, MayBack}

-- the items, the last one first, of each the edits by which it is taken back, in the order in which its own were applied; and for how
-- many more edits and items there is room
pub record PlainHistory : Type 0 where
  pub items : List (List Edit)
  pub spare : ℕ

-- the items of edits that stand one behind the other, by where each item begins, the last one first
abbrev pub cut_items : List Edit → List ℕ → List (List Edit)
cut_items edits [] = []
cut_items edits (start ∷ starts) = drop start edits ∷ cut_items (take start edits) starts

-- so many edits are cut at these places, the last one first
abbrev pub AreStarts : ℕ → List ℕ → Type 0
AreStarts n [] = ⊤
AreStarts n (start ∷ starts) = (start ≤ n) × AreStarts start starts

-- the edit that is kept, whose neighbours, if it has them, are the row that it names
abbrev pub past_in : {w : ℕ} → List NameSet → KeptEdit → PastOf w
past_in rows (kept.AddEdge u v) = past.AddEdge u v
past_in rows (kept.DelEdge u v) = past.DelEdge u v
past_in rows (kept.AddVertex x row) = past.AddVertex x (get_or rows row set.empty)
past_in rows (kept.DelVertex x) = past.DelVertex x

-- the row that the edit names is one of so many, if it names one
abbrev pub HasRow : ℕ → KeptEdit → Type 0
HasRow n (kept.AddVertex x row) = row < n
HasRow n _ = ⊤

-- the edits name the rows from the first number to the one before the second, in their order
abbrev pub NameRowsInOrder : ℕ → List KeptEdit → ℕ → Type 0
NameRowsInOrder n [] m = n ≡ m
NameRowsInOrder n (kept.AddVertex x row ∷ edits) m = (row ≡ n) × NameRowsInOrder (n + 1) edits m
NameRowsInOrder n (kept.AddEdge u v ∷ edits) m = NameRowsInOrder n edits m
NameRowsInOrder n (kept.DelEdge u v ∷ edits) m = NameRowsInOrder n edits m
NameRowsInOrder n (kept.DelVertex x ∷ edits) m = NameRowsInOrder n edits m

-- the history that is kept as the edits of all items, where each item begins, and the room
abbrev pub history_kept : {w : ℕ} → List (PastOf w) → List ℕ → ℕ → PlainHistory
history_kept edits starts spare = record { items = cut_items (map as_edit edits) (reverse starts); spare = spare }

-- the graphs before the items of a history behind which g stands
abbrev pub graphs_before : PlainGraph → List (List Edit) → List PlainGraph
graphs_before g [] = []
graphs_before g (item ∷ items) = taken_back g item ∷ graphs_before (taken_back g item) items

-- a history fits a graph: each edit can be taken back in its turn, has names below a limit, and leads to a graph of those that may be kept
abbrev pub HistoryFits : ℕ → (PlainGraph → Type 0) → PlainGraph → List (List Edit) → Type 0
HistoryFits limit Kept g [] = ⊤
HistoryFits limit Kept g (item ∷ items) = MayBack limit Kept g item × HistoryFits limit Kept (taken_back g item) items

-- an edit by its parts, and back
abbrev pub EditParts : Type 0
EditParts = (ℕ × ℕ) ⊎ ((ℕ × ℕ) ⊎ ((ℕ × List ℕ) ⊎ ℕ))

abbrev pub edit_parts : Edit → EditParts
edit_parts (AddEdge u v) = inl (u, v)
edit_parts (DelEdge u v) = inr (inl (u, v))
edit_parts (AddVertex x neighbours) = inr (inr (inl (x, neighbours)))
edit_parts (DelVertex x) = inr (inr (inr x))

abbrev pub edit_of_parts : EditParts → Edit
edit_of_parts (inl p) = AddEdge p.0 p.1
edit_of_parts (inr (inl p)) = DelEdge p.0 p.1
edit_of_parts (inr (inr (inl p))) = AddVertex p.0 p.1
edit_of_parts (inr (inr (inr x))) = DelVertex x

pub edit_back : (edit : Edit) → edit_of_parts (edit_parts edit) ≡ edit
edit_back (AddEdge u v) = refl
edit_back (DelEdge u v) = refl
edit_back (AddVertex x neighbours) = refl
edit_back (DelVertex x) = refl

-- an edit is stored as its parts, and a history as its two parts
abbrev pub edit_code : Coded Edit
edit_code =
    code_by EditParts (coded⊎ (coded× coded_ℕ coded_ℕ) (coded⊎ (coded× coded_ℕ coded_ℕ) (coded⊎ (coded× coded_ℕ (coded_list coded_ℕ)) coded_ℕ)))
    edit_parts edit_of_parts edit_back

abbrev pub history_code : Coded PlainHistory
history_code =
    code_by (List (List Edit) × ℕ) (coded× (coded_list (coded_list edit_code)) coded_ℕ) (λ h. (h.items, h.spare)) (λ p. record { items = p.0; spare = p.1 }) (λ _. refl)
