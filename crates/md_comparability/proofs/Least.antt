-- The least edge with a property that is decided.
use Rattle.std.proofs.Common.{◌≡◌, ◌⊎◌, ℕ, zero, suc, ◌<◌, ◌≤◌, sym, ◌∙◌, subst, inl, inr, arith}
use Rattle.std.proofs.lemmas.Bool.{cases_lt}
use Rattle.md_graph.proofs.Search.{Decided, decide_both, decide_below}
use Rattle.md_graph.proofs.SetLemmas.{same_name}
use Rattle.md_comparability.specs.Chains.{Precedes}
use Rattle.md_comparability.proofs.Deciding.{decide_either}

-- the least number with a property, and none below n
pub record IsLeastNumber (P : ℕ → Type 0) (m : ℕ) : Type 0 where
  pub has : P m
  pub least : (y : ℕ) → P y → m ≤ y

pub search_below : (P : ℕ → Type 0) → ((x : ℕ) → Decided (P x)) → (n : ℕ) → ((m : ℕ) × (m < n) × IsLeastNumber P m) ⊎ ((y : ℕ) → y < n → P y → ⊥)
search_below P decided zero = inr (λ y l _. omega arith)
search_below P decided (suc n) =
    elim (search_below P decided n) [
      | inl found ↦ let below = found.1 in inl (found.0, omega arith, found.2)
      | inr none ↦ elim (decided n) [
        | inl here ↦ inl (n, omega arith, record { has = here; least = λ y p. elim (cases_lt y n) [ inl l ↦ absurd (none y l p) | inr above ↦ above ] })
        | inr not_here ↦ inr (λ y l p. elim (cases_lt y n) [ inl less ↦ none y less p | inr above ↦ not_here (subst P (let same : y ≡ n = omega arith in same) p) ])
      ]
    ]

-- the least edge with a property
pub record IsLeastPair (P : ℕ → ℕ → Type 0) (u v : ℕ) : Type 0 where
  pub ascending : u < v
  pub has : P u v
  pub least : (x y : ℕ) → x < y → P x y → ¬ Precedes x y u v

module _ (P : ℕ → ℕ → Type 0) (decided : (x y : ℕ) → Decided (P x y)) (n : ℕ) (below : (x y : ℕ) → P x y → (x < n) × (y < n)) where
  abbrev Up : ℕ → ℕ → Type 0
  Up x y = (x < y) × P x y

  decide_up : (x y : ℕ) → Decided (Up x y)
  decide_up x y = decide_both (decide_below x y) (decided x y)

  -- some larger end
  abbrev Row : ℕ → Type 0
  Row x = (y : ℕ) × Up x y

  decide_row : (x : ℕ) → Decided (Row x)
  decide_row x =
      elim (search_below (Up x) (decide_up x) n) [
        | inl found ↦ inl (found.0, found.2.has)
        | inr none ↦ inr (λ r. none r.0 (below x r.0 r.1.1).1 r.1)
      ]

  -- one edge has the property and is the least, or none has it
  pub least_pair : ((u : ℕ) × (v : ℕ) × IsLeastPair P u v) ⊎ ((x y : ℕ) → x < y → P x y → ⊥)
  least_pair =
      elim (search_below Row decide_row n) [
        | inr none ↦ inr (λ x y l p. none x (below x y p).0 (y, (l, p)))
        | inl row ↦ elim (search_below (Up row.0) (decide_up row.0) n) [
          | inr none ↦ absurd (none row.2.has.0 (below row.0 row.2.has.0 row.2.has.1.1).1 row.2.has.1)
          | inl place ↦ inl (
            row.0,
            place.0,
            record {
              ascending = place.2.has.0;
              has = place.2.has.1;
              least = λ x y l p before. elim before [
                | inl less ↦ let at_most = row.2.least x (y, (l, p)) in omega arith
                | inr same ↦
                    let at_most = place.2.least y (subst (λ k. Up k y) same.0 (l, p)) in
                    let less = same.1 in
                    omega arith
              ];
            },
          )
        ]
      ]

-- ---- the order of edges

pub precedes_itself : (x y : ℕ) → Precedes x y x y → ⊥
precedes_itself x y (inl l) = omega arith
precedes_itself x y (inr p) = let l = p.1 in omega arith

pub precedes_one_way : (x y u v : ℕ) → Precedes x y u v → Precedes u v x y → ⊥
precedes_one_way x y u v (inl a) (inl b) = omega arith
precedes_one_way x y u v (inl a) (inr b) = let s = b.0 in omega arith
precedes_one_way x y u v (inr a) (inl b) = let s = a.0 in omega arith
precedes_one_way x y u v (inr a) (inr b) = let s = a.1 in let t = b.1 in omega arith

pub precedes_on : (a b c d x y : ℕ) → Precedes a b c d → Precedes c d x y → Precedes a b x y
precedes_on a b c d x y (inl l) (inl m) = inl (omega arith)
precedes_on a b c d x y (inl l) (inr m) = let s = m.0 in inl (omega arith)
precedes_on a b c d x y (inr l) (inl m) = let s = l.0 in inl (omega arith)
precedes_on a b c d x y (inr l) (inr m) = let s = l.1 in let t = m.1 in inr (l.0 ∙ m.0, omega arith)

pub decide_precedes : (x y u v : ℕ) → Decided (Precedes x y u v)
decide_precedes x y u v = decide_either (decide_below x u) (decide_both (same_name x u) (decide_below y v))

-- one of two different edges is less
pub precedes_or_same : (x y u v : ℕ) → Precedes x y u v ⊎ Precedes u v x y ⊎ ((x ≡ u) × (y ≡ v))
precedes_or_same x y u v =
    elim (cases_lt x u) [
      | inl l ↦ inl (inl l)
      | inr above ↦ elim (cases_lt u x) [
        | inl l ↦ inr (inl (inl l))
        | inr at_most ↦
            let same : x ≡ u = omega arith in
            elim (cases_lt y v) [
              | inl l ↦ inl (inr (same, l))
              | inr above_too ↦ elim (cases_lt v y) [
                | inl l ↦ inr (inl (inr (sym same, l)))
                | inr at_most_too ↦ inr (inr (same, omega arith))
              ]
            ]
      ]
    ]
