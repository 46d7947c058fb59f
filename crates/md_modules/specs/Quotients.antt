-- Quotients: one name for each class, with the adjacency of those names.
-- Source: Habib and Paul, A survey of the algorithmic aspects of modular decomposition.
use Rattle.std.specs.Prelude.{◌≡◌, ℕ, nat_eq}
use Rattle.std.specs.FinSet.{retain}
use Rattle.md_graph.specs.Sets.{NameSet, Has, Within}
use Rattle.md_modules.specs.Modules.{IsModule, IsMaximalModule}

-- Representatives, the names of the quotient: r is a part of s with exactly one name of each
-- maximal proper module of s. Where s has two members each name lies in such a module, so r has no
-- other name.
pub record IsQuotient {C : Type 0} (e : ℕ → ℕ → C) (s r : NameSet) : Type 0 where
  pub inside : Within r s
  pub one : (m : NameSet) → IsMaximalModule e s m →
      (x : ℕ) × Has m x × Has r x × ((y : ℕ) → Has m y → Has r y → y ≡ x)

-- the class of p, where each name x of s belongs to the class of the name rep x
abbrev pub class : NameSet → (ℕ → ℕ) → ℕ → NameSet
class s rep p = retain s (λ x. nat_eq (rep x) p)

-- A modular partition: s is partitioned into modules, r has one name of each class, and rep leads
-- each name to that of its class
pub record IsModularPartition {C : Type 0} (e : ℕ → ℕ → C) (s r : NameSet) (rep : ℕ → ℕ)
    : Type 0 where
  pub inside : Within r s
  pub leads : (x : ℕ) → Has s x → Has r (rep x)
  pub own : (p : ℕ) → Has r p → rep p ≡ p
  pub modules : (p : ℕ) → Has r p → IsModule e s (class s rep p)
