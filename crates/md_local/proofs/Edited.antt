-- A graph in which an edge has come or gone.
use Rattle.std.proofs.Common.{◌≡◌, ℕ, false, ◌&&◌, ◌||◌, ◌==◌, not, refl, sym, ◌∙◌, ap, ⊎_elim}
use Rattle.std.proofs.lemmas.Bool.{eqb-true, and_parts, or_cases, false_from_ne_true}
use Rattle.md_graph.specs.PlainGraph.{PlainGraph, IsGraph, adjacent, with_edge, without_edge}
use Rattle.md_graph.proofs.GraphLemmas.{adjacent-with_edge, adjacent-without_edge}
use Rattle.md_local.specs.Edits.{IsEdited}

-- a pair that isn't that of u and v
elsewhere : (u v a b : ℕ) → ¬ ((a ≡ u) × (b ≡ v)) → ¬ ((a ≡ v) × (b ≡ u)) → (((a == u) && (b == v)) || ((a == v) && (b == u))) ≡ false
elsewhere u v a b here there = false_from_ne_true _ (λ h. ⊎_elim
    (λ p. let q = and_parts (a == u) (b == v) p in here (eqb-true a u q.0, eqb-true b v q.1))
    (λ p. let q = and_parts (a == v) (b == u) p in there (eqb-true a v q.0, eqb-true b u q.1))
    (or_cases ((a == u) && (b == v)) ((a == v) && (b == u)) h))

pub edge_comes : (g : PlainGraph) (u v : ℕ) → IsGraph g → IsEdited g (with_edge g u v) u v
edge_comes g u v is = record {
  before = is;
  vertices = refl;
  edges = λ a b here there. sym (adjacent-with_edge g u v a b ∙ ap (λ t. t || adjacent g a b) (elsewhere u v a b here there));
}

pub edge_goes : (g : PlainGraph) (u v : ℕ) → IsGraph g → IsEdited g (without_edge g u v) u v
edge_goes g u v is = record {
  before = is;
  vertices = refl;
  edges = λ a b here there. sym (adjacent-without_edge g u v a b ∙ ap (λ t. not t && adjacent g a b) (elsewhere u v a b here there));
}
