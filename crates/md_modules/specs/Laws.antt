-- The laws of modules, of graphs and of any colouring.
use Rattle.std.specs.Prelude.{◌≡◌, ◌≢◌, ◌≤◌, ◌⊎◌, ◌↔◌, ℕ, Bool, true, false}
use Rattle.std.specs.FinSet.{len}
use Rattle.md_graph.specs.Sets.{NameSet, Has, Within, Disjoint, HasSome, HasTwo, Proper, only_name}
use Rattle.md_graph.specs.Adjacency.{IsAdjacency, co}
use Rattle.md_modules.specs.Colours.{IsColouring, AreTold}
use Rattle.md_modules.specs.Modules.{IsModule, IsStrong, IsLeastModule, IsMaximalModule, IsMaximalStrong, IsParent, HasTrivialModulesAlone}
use Rattle.md_modules.specs.Kinds.{IsSplit, IsParallel, IsSeries, IsPrime, IsUnsplit}
use Rattle.md_modules.specs.Components.{IsClosed, IsComponent}
use Rattle.md_modules.specs.Segments.{IsLeastSegment}
use Rattle.md_modules.specs.Quotients.{IsQuotient}
use Rattle.md_modules.specs.InducedPaths.{HasInducedPath}

-- of three facts one holds, and no two
pub record ExactlyOne (P Q R : Type 0) : Type 0 where
  pub one : P ⊎ Q ⊎ R
  pub not_first_two : ¬ (P × Q)
  pub not_outer : ¬ (P × R)
  pub not_last_two : ¬ (Q × R)

-- a set with two or more members has exactly one kind
abbrev pub HasOneKind : Type 0
HasOneKind = (e : ℕ → ℕ → Bool) → IsAdjacency e → (s : NameSet) → HasTwo s →
    ExactlyOne (IsParallel e s) (IsSeries e s) (IsPrime e s)

-- the strong modules of s are a tree under inclusion, with root s and the single names as leaves
pub record AreTree {C : Type 0} (e : ℕ → ℕ → C) (s : NameSet) : Type 0 where
  -- the root
  pub root : IsStrong e s s
  pub below_root : (m : NameSet) → IsStrong e s m → Within m s
  -- two strong modules don't meet, or one holds the other
  pub nested : (m n : NameSet) → IsStrong e s m → IsStrong e s n →
      Disjoint m n ⊎ Within m n ⊎ Within n m
  -- each strong module but the root has a parent, and one alone
  pub parent : (m : NameSet) → IsStrong e s m → m ≢ s → (p : NameSet) × IsParent e s m p
  pub one_parent : (m p q : NameSet) → IsParent e s m p → IsParent e s m q → p ≡ q
  -- each single name is a strong module, and these are those that hold no other one
  pub singles : (v : ℕ) → Has s v → IsStrong e s (only_name v)
  pub leaves : (m : NameSet) → IsStrong e s m →
      ((v : ℕ) × (m ≡ only_name v)) ↔ ((n : NameSet) → IsStrong e s n → ¬ (Proper n m))

-- the strong modules of a set with a member are a tree
abbrev pub StrongModulesAreTree : Type 0
StrongModulesAreTree = (e : ℕ → ℕ → Bool) → (s : NameSet) → HasSome s → AreTree e s

-- the strong modules of s are s and the strong modules of each maximal proper strong module
abbrev pub Descends : {C : Type 0} → (ℕ → ℕ → C) → NameSet → Type 0
Descends e s = (m : NameSet) →
    IsStrong e s m ↔ ((m ≡ s) ⊎ ((c : NameSet) × IsMaximalStrong e s c × IsStrong e c m))

-- the strong modules of a set with a member are the set and the strong modules of each maximal
-- proper strong module
abbrev pub StrongModulesDescend : Type 0
StrongModulesDescend = (e : ℕ → ℕ → Bool) → (s : NameSet) → HasSome s → Descends e s

-- both laws of strong modules, for any colours
abbrev pub ColouredStrongModules : Type 0 → Type 0
ColouredStrongModules C = AreTold C → (e : ℕ → ℕ → C) → (s : NameSet) → HasSome s →
    AreTree e s × Descends e s

-- the children of s in the tree of strong modules, by the kind of s
pub record ChildrenByKind (e : ℕ → ℕ → Bool) (s : NameSet) : Type 0 where
  -- of a parallel set they are exactly its components
  pub parallel : IsParallel e s → (c : NameSet) → IsMaximalStrong e s c
      ↔ ((x : ℕ) × IsComponent e s x c false)
  -- of a series set they are exactly the components of its complement
  pub series : IsSeries e s → (c : NameSet) → IsMaximalStrong e s c
      ↔ ((x : ℕ) × IsComponent e s x c true)
  -- of a prime set they are exactly its maximal proper modules
  pub prime : IsPrime e s → (c : NameSet) → IsMaximalStrong e s c ↔ IsMaximalModule e s c

-- what the children of a set of each kind are
abbrev pub ChildrenAreByKind : Type 0
ChildrenAreByKind = (e : ℕ → ℕ → Bool) → IsAdjacency e → (s : NameSet) → ChildrenByKind e s

-- a set with two or more members that is connected and whose complement is connected has an induced
-- path on four names
abbrev pub PrimeHasInducedPath : Type 0
PrimeHasInducedPath = (e : ℕ → ℕ → Bool) → IsAdjacency e → (s : NameSet) → IsPrime e s →
    HasInducedPath e s

-- no induced path on four names exactly where no strong module is prime
abbrev pub NoInducedPathIfNonePrime : Type 0
NoInducedPathIfNonePrime =
    (e : ℕ → ℕ → Bool) → IsAdjacency e → (s : NameSet) →
    (¬ (HasInducedPath e s)) ↔ ((m : NameSet) → IsStrong e s m → ¬ (IsPrime e m))

-- whether a set has an induced path on four names is decided
abbrev pub InducedPathsAreDecided : Type 0
InducedPathsAreDecided =
    (e : ℕ → ℕ → Bool) → IsAdjacency e → (s : NameSet) → HasInducedPath e s ⊎ (¬ (HasInducedPath e s))

-- the maximal proper modules of s, and their quotient, which has so many names or more
pub record MaximalModules {C : Type 0} (e : ℕ → ℕ → C) (s : NameSet) (few : ℕ) : Type 0 where
  -- each two names have a least module, and they lie in one maximal proper module exactly where
  -- that isn't s
  pub least : (u v : ℕ) → Has s u → Has s v → (k : NameSet) × IsLeastModule e s u v k
  pub together : (u v : ℕ) (k : NameSet) → IsLeastModule e s u v k →
      ((m : NameSet) × IsMaximalModule e s m × Has m u × Has m v) ↔ (k ≢ s)
  -- each name lies in a maximal proper module, and different ones are disjoint
  pub covered : (u : ℕ) → Has s u → (m : NameSet) × IsMaximalModule e s m × Has m u
  pub disjoint : (m n : NameSet) → IsMaximalModule e s m → IsMaximalModule e s n → m ≢ n →
      Disjoint m n
  -- between two of them all pairs are alike, so that the names of a quotient tell the adjacency of
  -- their modules
  pub alike : (m n : NameSet) (a b p q : ℕ) → IsMaximalModule e s m → IsMaximalModule e s n →
      m ≢ n → Has m a → Has m p → Has n b → Has n q → e a b ≡ e p q
  -- there is a quotient; each has trivial modules alone, and so many names or more
  pub quotient : (r : NameSet) × IsQuotient e s r
  pub trivial : (r : NameSet) → IsQuotient e s r → HasTrivialModulesAlone e r
  pub many : (r : NameSet) → IsQuotient e s r → few ≤ len r

-- what holds of the maximal proper modules of each set that is prime: with two or more members,
-- connected and co-connected; a quotient has four names or more
abbrev pub PrimeHasMaximalModules : Type 0
PrimeHasMaximalModules = (e : ℕ → ℕ → Bool) → IsAdjacency e → (s : NameSet) → IsPrime e s →
    MaximalModules e s 4

-- two splits of one set have one colour, or each the reverse of the other's
abbrev pub SplitsHaveOneColour : Type 0 → Type 0
SplitsHaveOneColour C = (reverse : C → C) (e : ℕ → ℕ → C) → IsColouring reverse e →
    (s a b : NameSet) (v w : C) → IsSplit e s a v → IsSplit e s b w → (v ≡ w) ⊎ (w ≡ reverse v)

-- the children of s in the tree of strong modules, where s splits with v
pub record SplitChildren {C : Type 0} (reverse : C → C) (e : ℕ → ℕ → C) (s : NameSet) (v : C)
    : Type 0 where
  -- they are exactly its least segments
  pub segments : (c : NameSet) → IsMaximalStrong e s c
      ↔ ((x : ℕ) × IsLeastSegment e s x c v (reverse v))
  -- none splits with v or its reverse
  pub unsplit : (c part : NameSet) → IsMaximalStrong e s c →
      (¬ (IsSplit e c part v)) × (¬ (IsSplit e c part (reverse v)))
  -- they stand in a row: of the last ones there is a first one, whose pairs with the others have
  -- the colour v
  pub first : (rest : NameSet) → IsClosed e s rest (reverse v) → HasSome rest →
      (c : NameSet) × IsMaximalStrong e s c × IsClosed e rest c v

-- what the children of a set that splits are, for any colours
abbrev pub ChildrenOfSplit : Type 0 → Type 0
ChildrenOfSplit C = (reverse : C → C) (e : ℕ → ℕ → C) → IsColouring reverse e → AreTold C →
    (s part : NameSet) (v : C) → IsSplit e s part v → SplitChildren reverse e s v

-- the children of a set that doesn't split are its maximal proper modules, and a quotient by these
-- has trivial modules alone, and three names or more, for any colours
abbrev pub UnsplitHasMaximalModules : Type 0 → Type 0
UnsplitHasMaximalModules C = (reverse : C → C) (e : ℕ → ℕ → C) → IsColouring reverse e →
    AreTold C → (s : NameSet) → IsUnsplit e s →
    ((c : NameSet) → IsMaximalStrong e s c ↔ IsMaximalModule e s c) × MaximalModules e s 3

-- what the complement has of the graph on s
pub record ComplementTurns (e : ℕ → ℕ → Bool) (s : NameSet) : Type 0 where
  pub adjacency : IsAdjacency (co e)
  -- the same modules and strong modules
  pub modules : (m : NameSet) → IsModule e s m ↔ IsModule (co e) s m
  pub strong : (m : NameSet) → IsStrong e s m ↔ IsStrong (co e) s m
  -- parallel and series change places, and prime stays
  pub parallel : IsParallel e s ↔ IsSeries (co e) s
  pub series : IsSeries e s ↔ IsParallel (co e) s
  pub prime : IsPrime e s ↔ IsPrime (co e) s

-- the complement has the same modules, with parallel and series the other way round
abbrev pub ComplementTurnsKinds : Type 0
ComplementTurnsKinds = (e : ℕ → ℕ → Bool) → IsAdjacency e → (s : NameSet) → ComplementTurns e s
