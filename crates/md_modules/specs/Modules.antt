-- Modules and strong modules of the graph on a set of names s with the adjacency e, or of any other
-- colouring e of its pairs.
-- Source: Habib and Paul, A survey of the algorithmic aspects of modular decomposition.
use Rattle.std.specs.Prelude.{◌≡◌, ◌≢◌, ℕ, ◌⊎◌}
use Rattle.md_graph.specs.Sets.{NameSet, Has, Lacks, Within, HasSome, Proper}

-- m is a nonempty part of s, and each name of s outside m is adjacent to all of m or to none of it
-- (of any colouring: its pairs with the names of m have one colour)
pub record IsModule {C : Type 0} (e : ℕ → ℕ → C) (s m : NameSet) : Type 0 where
  pub some : HasSome m
  pub inside : Within m s
  pub alike : (a b x : ℕ) → Has m a → Has m b → Has s x → Lacks m x → e x a ≡ e x b

-- two sets meet, and neither holds the other
pub record Overlap (a b : NameSet) : Type 0 where
  pub meet : (x : ℕ) × Has a x × Has b x
  pub left : (x : ℕ) × Has a x × Lacks b x
  pub right : (x : ℕ) × Has b x × Lacks a x

-- a module that overlaps no module
pub record IsStrong {C : Type 0} (e : ℕ → ℕ → C) (s m : NameSet) : Type 0 where
  pub is_module : IsModule e s m
  pub free : (n : NameSet) → IsModule e s n → ¬ (Overlap m n)

-- the least module that holds u and v
pub record IsLeastModule {C : Type 0} (e : ℕ → ℕ → C) (s : NameSet) (u v : ℕ) (k : NameSet)
    : Type 0 where
  pub is_module : IsModule e s k
  pub has_left : Has k u
  pub has_right : Has k v
  pub least : (m : NameSet) → IsModule e s m → Has m u → Has m v → Within k m

-- the least module that holds a set of names
pub record IsLeastModuleOver {C : Type 0} (e : ℕ → ℕ → C) (s begun k : NameSet) : Type 0 where
  pub is_module : IsModule e s k
  pub holds : Within begun k
  pub least : (m : NameSet) → IsModule e s m → Within begun m → Within k m

-- a module other than s that lies in no other module but s
pub record IsMaximalModule {C : Type 0} (e : ℕ → ℕ → C) (s m : NameSet) : Type 0 where
  pub is_module : IsModule e s m
  pub proper : m ≢ s
  pub maximal : (n : NameSet) → IsModule e s n → n ≢ s → Within m n → n ≡ m

-- a strong module other than s that lies in no other strong module but s: a child of s in the tree
-- of strong modules
pub record IsMaximalStrong {C : Type 0} (e : ℕ → ℕ → C) (s m : NameSet) : Type 0 where
  pub is_strong : IsStrong e s m
  pub proper : m ≢ s
  pub maximal : (n : NameSet) → IsStrong e s n → n ≢ s → Within m n → n ≡ m

-- p is the parent of m in the tree of strong modules: the least strong module that holds m and is
-- another set
pub record IsParent {C : Type 0} (e : ℕ → ℕ → C) (s m p : NameSet) : Type 0 where
  pub is_strong : IsStrong e s p
  pub above : Proper m p
  pub least : (n : NameSet) → IsStrong e s n → Proper m n → Within p n

-- a prime graph: each module is trivial, one name or the whole
abbrev pub HasTrivialModulesAlone : {C : Type 0} → (ℕ → ℕ → C) → NameSet → Type 0
HasTrivialModulesAlone e s =
    (m : NameSet) → IsModule e s m → ((x : ℕ) × ((y : ℕ) → Has m y → y ≡ x)) ⊎ (m ≡ s)
