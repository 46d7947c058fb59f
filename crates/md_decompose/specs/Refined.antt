-- Classes that no module lies across, and the sets that are made of them.
-- Source: Habib and Paul, A survey of the algorithmic aspects of modular decomposition (partition
-- refinement).
use Rattle.std.specs.Prelude.{◌≡◌, ◌<◌, ℕ, Option, None, Some, List, length, slice_index_or, All}
use Rattle.std.specs.FinSet.{contains, empty}
use Rattle.md_graph.specs.Sets.{NameSet, Has, Within}
use Rattle.md_modules.specs.Modules.{IsModule}
use Rattle.md_modules.specs.Classes.{class_at}
use Rattle.md_refine.specs.Partitions.{is_in, is_name}

-- the class has all names of m, or none of them
abbrev pub HasAllOrNone : NameSet → List ℕ → Type 0
HasAllOrNone m c = (x y : ℕ) → Has m x → Has m y → is_in c x ≡ is_in c y

-- the classes have the names of b, and no module of s inside b lies across two of them
pub record CutNoModule {C : Type 0} (e : ℕ → ℕ → C) (s b : NameSet) (classes : List (List ℕ)) : Type 0 where
  pub names : (v : ℕ) → is_name classes v ≡ contains b v
  pub whole : (m : NameSet) → IsModule e s m → Within m b → All (HasAllOrNone m) classes

-- the number of a name
abbrev pub number_at : List (Option ℕ) → ℕ → Option ℕ
number_at numbers v = slice_index_or numbers v None

-- each name of b has a number below count, and each such number is that of a name of b
pub record IsNumbering (b : NameSet) (number : ℕ → Option ℕ) (count : ℕ) : Type 0 where
  pub known : (v : ℕ) → Has b v → (k : ℕ) × (number v ≡ Some k) × (k < count)
  pub used : (k : ℕ) → k < count → (v : ℕ) × Has b v × (number v ≡ Some k)

-- the set at each position has the names of b with this number
pub record AreNumbered (b : NameSet) (number : ℕ → Option ℕ) (count : ℕ) (cs : List NameSet) : Type 0 where
  pub long : length cs ≡ count
  pub members : (k v : ℕ) → Has (class_at cs k) v → Has b v × (number v ≡ Some k)
  pub cover : (k v : ℕ) → k < count → Has b v → number v ≡ Some k → Has (class_at cs k) v

-- the set, or the empty set where there is none yet
abbrev pub set_or_empty : Option NameSet → NameSet
set_or_empty None = empty
set_or_empty (Some s) = s

-- the set at a position, where there is one yet
abbrev pub set_yet_at : List (Option NameSet) → ℕ → NameSet
set_yet_at cs k = set_or_empty (slice_index_or cs k None)
