-- Two pairs with one value, edge or not, and the other one across: a cycle has them by its diagonals, two edges by themselves.
use Rattle.std.proofs.Common.{◌≡◌, ◌≢◌, ℕ, ◌<◌, Bool, true, false, not, sym, ◌∙◌, ap, arith}
use Rattle.md_graph.specs.Sets.{NameSet}
use Rattle.md_graph.specs.Adjacency.{IsAdjacency}
use Rattle.md_graph.proofs.SetLemmas.{clash}
use Rattle.md_bar_tree.specs.Bars.{AreInside, AreDifferent, IsInducedCycle, AreTwoEdges}

-- the pairs pq and rs have the value v, and all pairs across the other one
pub record HaveValues (e : ℕ → ℕ → Bool) (v : Bool) (p q r s : ℕ) : Type 0 where
  pub pairs : (e p q ≡ v) × (e r s ≡ v)
  pub across : (e p r ≡ not v) × (e p s ≡ not v) × (e q r ≡ not v) × (e q s ≡ not v)

-- so have different names
pub record AreTwoPairs (e : ℕ → ℕ → Bool) (v : Bool) (p q r s : ℕ) : Type 0 where
  pub values : HaveValues e v p q r s
  pub different : (p ≢ q) × (r ≢ s)

pub not_both : (v a : Bool) → a ≡ v → a ≡ not v → ⊥
not_both true a p q = clash p q
not_both false a p q = clash q p

-- the pairs ascend, and so do their first names
abbrev pub AreAscending : ℕ → ℕ → ℕ → ℕ → Type 0
AreAscending p q r s = (p < q) × (r < s) × (p < r)

less_differs : (a b : ℕ) → a < b → a ≢ b
less_differs a b l same = omega arith

module _ {e : ℕ → ℕ → Bool} (adj : IsAdjacency e) where
  -- names across the pairs differ
  told_apart : (v : Bool) (a b c : ℕ) → e a b ≡ v → e a c ≡ not v → b ≢ c
  told_apart v a b c p q same = not_both v (e a b) p (ap (e a) same ∙ q)

  all_different : (v : Bool) (p q r s : ℕ) → HaveValues e v p q r s → AreAscending p q r s → AreDifferent p q r s
  all_different v p q r s h up = (
    less_differs p q up.0,
    less_differs p r up.2,
    less_differs p s (let a : p < r = up.2 in let b : r < s = up.1 in omega arith),
    told_apart v p q r h.pairs.0 h.across.0,
    told_apart v p q s h.pairs.0 h.across.1,
    less_differs r s up.1,
  )

  pub cycle_of : (t : NameSet) (p q r s : ℕ) → HaveValues e false p q r s → AreInside t p q r s → AreAscending p q r s → IsInducedCycle e t p r q s
  cycle_of t p q r s h i up =
      let d : AreDifferent p q r s = all_different false p q r s h up in
      record {
        inside = (i.0, i.2, i.1, i.3);
        different = (d.1, d.0, d.2, (λ same. d.3 (sym same)), d.5, d.4);
        edges = (h.across.0, adj.symmetric r q ∙ h.across.2, h.across.3, adj.symmetric s p ∙ h.across.1);
        apart = (h.pairs.0, h.pairs.1);
        ascending = (up.2, up.0, (let a : p < r = up.2 in let b : r < s = up.1 in omega arith), up.1);
      }

  pub edges_of : (t : NameSet) (p q r s : ℕ) → HaveValues e true p q r s → AreInside t p q r s → AreAscending p q r s → AreTwoEdges e t p q r s
  edges_of t p q r s h i up = record {
    inside = i;
    different = all_different true p q r s h up;
    edges = h.pairs;
    apart = h.across;
    ascending = up;
  }

  pub of_cycle : (t : NameSet) (a b c d : ℕ) → IsInducedCycle e t a b c d → AreTwoPairs e false a c b d
  of_cycle t a b c d is = record {
    values = record { pairs = is.apart; across = (is.edges.0, adj.symmetric a d ∙ is.edges.3, adj.symmetric c b ∙ is.edges.1, is.edges.2) };
    different = (is.different.1, is.different.4);
  }

  pub of_edges : (t : NameSet) (a b c d : ℕ) → AreTwoEdges e t a b c d → AreTwoPairs e true a b c d
  of_edges t a b c d is = record { values = record { pairs = is.edges; across = is.apart }; different = (is.different.0, is.different.5) }
