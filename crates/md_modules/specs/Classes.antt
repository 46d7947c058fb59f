-- Partitions of a set of names, and the parts of a prime set that its modules lie in.
-- Source: Habib and Paul, A survey of the algorithmic aspects of modular decomposition (partition
-- refinement).
use Rattle.std.specs.Prelude.{◌≡◌, ◌≢◌, ◌<◌, ◌⊎◌, ℕ, List, length, get_or}
use Rattle.std.specs.FinSet.{empty, intersection, difference}
use Rattle.md_graph.specs.Sets.{NameSet, Has, Lacks, Within, Disjoint, HasSome}
use Rattle.md_modules.specs.Modules.{IsModule}

-- the class at a place of a list, counted from 0; the empty set past the end
abbrev pub class_at : List NameSet → ℕ → NameSet
class_at cs i = get_or cs i empty

-- p is a name of s outside c that tells two names of c apart: it is adjacent to one and not to the
-- other
pub record IsSplitter {C : Type 0} (e : ℕ → ℕ → C) (s c : NameSet) (p : ℕ) : Type 0 where
  pub inside : Has s p
  pub outside : Lacks c p
  pub tells : (a : ℕ) × (b : ℕ) × Has c a × Has c b × (e p a ≢ e p b)

-- left is a part of s outside c, and has each name of s outside c that tells names of c apart
pub record HoldsSplitters {C : Type 0} (e : ℕ → ℕ → C) (s c left : NameSet) : Type 0 where
  pub inside : Within left s
  pub outside : Disjoint c left
  pub all : (p : ℕ) → IsSplitter e s c p → Has left p

-- part has the names of c that row has, or those that it lacks
abbrev pub IsSideOf : NameSet → NameSet → NameSet → Type 0
IsSideOf part c row = (part ≡ row) ⊎ (part ≡ difference c row)

-- of the two parts of c, in `row` and outside it, one stays and one goes
abbrev pub IsDivided : NameSet → NameSet → NameSet → NameSet → Type 0
IsDivided c row stays goes =
    (part : NameSet) × IsSideOf part c row × (stays ≡ intersection c part) × (goes ≡ difference c part)

-- no set is empty, and no two sets meet
pub record AreApart (cs : List NameSet) : Type 0 where
  pub some : (k : ℕ) → k < length cs → HasSome (class_at cs k)
  pub apart : (j k x : ℕ) → Has (class_at cs j) x → Has (class_at cs k) x → j ≡ k

-- the sets partition b
pub record IsPartition (b : NameSet) (cs : List NameSet) : Type 0 where
  pub are_apart : AreApart cs
  pub inside : (k x : ℕ) → Has (class_at cs k) x → Has b x
  pub cover : (x : ℕ) → Has b x → (k : ℕ) × Has (class_at cs k) x

-- each of the new sets lies in an old one
abbrev pub AreFiner : List NameSet → List NameSet → Type 0
AreFiner old new = (k : ℕ) → (j : ℕ) × Within (class_at new k) (class_at old j)

-- the sets partition b, and each module of s that is a part of b lies in one of them
pub record HoldsModules {C : Type 0} (e : ℕ → ℕ → C) (s b : NameSet) (cs : List NameSet) : Type 0 where
  pub partition : IsPartition b cs
  pub whole : (m : NameSet) → IsModule e s m → Within m b → (k x : ℕ) → Has (class_at cs k) x →
      Has m x → Within m (class_at cs k)

-- the list has exactly the maximal ones among the modules of s that are parts of b
pub record AreMaximalInside {C : Type 0} (e : ℕ → ℕ → C) (s b : NameSet) (cs : List NameSet) : Type 0 where
  pub holds : HoldsModules e s b cs
  pub modules : (k : ℕ) → k < length cs → IsModule e s (class_at cs k)
