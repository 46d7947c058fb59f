-- Graphs from lists of edges, an edge at a time.
use Rattle.std.proofs.Common.{◌≡◌, ℕ, ◌+◌, ◌<◌, ◌≤◌, List, [], ◌∷◌, ◌++◌, take, map, length, get_or, ap, sym, subst, ◌∙◌, arith, inl, inr}
use Rattle.std.proofs.lemmas.List.{map-append, take_more, get_or_default}
use Rattle.std.proofs.lemmas.Bool.{cases_lt}
use Rattle.std.specs.FinSet as set
use Rattle.md_graph.specs.NameSet.{range}
use Rattle.md_graph.specs.PlainGraph.{PlainGraph, edge, empty_graph, with_range, with_edge}
use Rattle.md_graph.specs.Listed.{AreEnds, AreEdgesBelow, graph_of_list}
use Rattle.md_graph.proofs.PairLaws.{pairs-from_list_push}
use Rattle.md_graph.proofs.Ranges.{range_alone}

abbrev ends : ℕ × ℕ → ℕ × ℕ
ends p = edge p.0 p.1

-- the first pairs of a list, up to one place, are sound edges
abbrev pub AreSound : ℕ → List (ℕ × ℕ) → ℕ → Type 0
AreSound count pairs at = (k : ℕ) → k < at → AreEnds (range 0 count) (get_or pairs k (0, 0))

pub list_begins : {g h : PlainGraph} (count : ℕ) → g ≡ empty_graph → h ≡ with_range g 0 count → h ≡ graph_of_list count []
list_begins count none is = range_alone 0 count none is

list_push : (count : ℕ) (pairs : List (ℕ × ℕ)) (p : ℕ × ℕ) → with_edge (graph_of_list count pairs) p.0 p.1 ≡ graph_of_list count (pairs ++ p ∷ [])
list_push count pairs p =
    let pushed : set.insert (set.from_list (map ends pairs)) (ends p) ≡ set.from_list (map ends (pairs ++ p ∷ [])) =
    sym (ap set.from_list (map-append ends pairs (p ∷ [])) ∙ pairs-from_list_push (map ends pairs) (ends p)) in
    λ i. record { vertices = range 0 count; edges = pushed i }

-- one edge more
pub list_more : {g h : PlainGraph} (count : ℕ) (pairs : List (ℕ × ℕ)) (i : ℕ) (p : ℕ × ℕ) → i < length pairs → p ≡ get_or pairs i (0, 0)
    → g ≡ graph_of_list count (take i pairs) → h ≡ with_edge g p.0 p.1 → h ≡ graph_of_list count (take (i + 1) pairs)
list_more count pairs i p within item so_far more =
    let longer : take (i + 1) pairs ≡ take i pairs ++ p ∷ [] = take_more pairs i (0, 0) within ∙ ap (λ x. take i pairs ++ x ∷ []) (sym item) in
    more ∙ ap (λ g. with_edge g p.0 p.1) so_far ∙ list_push count (take i pairs) p ∙ ap (graph_of_list count) (sym longer)

pub sound_more : {g : PlainGraph} (count : ℕ) (pairs : List (ℕ × ℕ)) (i : ℕ) (p : ℕ × ℕ) → p ≡ get_or pairs i (0, 0)
    → g ≡ graph_of_list count (take i pairs) → AreEnds g.vertices p → AreSound count pairs i → AreSound count pairs (i + 1)
sound_more {g} count pairs i p item so_far here sound k below =
    elim (cases_lt k i) [
      | inl before ↦ sound k before
      | inr past ↦ subst (λ k. AreEnds (range 0 count) (get_or pairs k (0, 0))) (omega arith)
          (subst (AreEnds (range 0 count)) item (subst (λ (g : PlainGraph). AreEnds g.vertices p) so_far here))
    ]

pub all_sound : (count : ℕ) (pairs : List (ℕ × ℕ)) (at : ℕ) → length pairs ≤ at → AreSound count pairs at → AreEdgesBelow count pairs
all_sound count pairs at past sound = λ k d below.
    subst (AreEnds (range 0 count)) (get_or_default pairs k (0, 0) d below) (sound k (omega (arith, below, past)))
