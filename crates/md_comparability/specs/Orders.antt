-- Orders of the vertices, and two that realise a graph.
-- Source: Golumbic, Algorithmic Graph Theory and Perfect Graphs, chapter 7.
use Rattle.std.specs.Prelude.{◌≡◌, ◌≢◌, ◌⊎◌, ◌↔◌, ℕ, Bool, true, List, [], ◌∷◌}
use Rattle.std.specs.FinSet as set
use Rattle.md_graph.specs.Sets.{NameSet, Has}
use Rattle.md_forcing.specs.Lists.{Holds, NoRepeats}

-- the list holds each member of s once, and nothing else
pub record IsOrder (s : NameSet) (list : List ℕ) : Type 0 where
  pub members : (v : ℕ) → Holds list v ↔ Has s v
  pub once : NoRepeats list

-- u stands before v in the list
abbrev pub Before : List ℕ → ℕ → ℕ → Type 0
Before [] u v = ⊥
Before (x ∷ xs) u v = ((u ≡ x) × Holds xs v) ⊎ Before xs u v

-- the lists disagree on which of u and v comes first
abbrev pub Disagree : List ℕ → List ℕ → ℕ → ℕ → Type 0
Disagree p q u v = (Before p u v × Before q v u) ⊎ (Before p v u × Before q u v)

-- two orders of s in which two different vertices are adjacent exactly where the orders disagree on them
pub record Realise (e : ℕ → ℕ → Bool) (s : NameSet) (p q : List ℕ) : Type 0 where
  pub first : IsOrder s p
  pub second : IsOrder s q
  pub edges : (u v : ℕ) → Has s u → Has s v → u ≢ v → (e u v ≡ true) ↔ Disagree p q u v

-- a linear order of the members of s, by its test
pub record IsLinear (r : ℕ → ℕ → Bool) (s : NameSet) : Type 0 where
  pub one : (u v : ℕ) → Has s u → Has s v → u ≢ v → (r u v ≡ true) ⊎ (r v u ≡ true)
  pub one_way : (u v : ℕ) → r u v ≡ true → r v u ≡ true → ⊥
  pub transitive : (u v w : ℕ) → Has s u → Has s v → Has s w → r u v ≡ true → r v w ≡ true → r u w ≡ true

-- the place of v in an order of s, by its test, counted from 0: how many members of s come before v
abbrev pub place_in : (ℕ → ℕ → Bool) → NameSet → ℕ → ℕ
place_in r s v = set.len (set.retain s (λ u. r u v))
