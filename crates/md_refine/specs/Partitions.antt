-- Ordered partitions of sets of names, and how they are refined.
-- Source: Habib and Paul, partition refinement.
use Rattle.std.specs.Prelude.{Option, ◌≡◌, ◌≢◌, ℕ, ◌+◌, ◌<◌, ◌≤◌, Bool, true, not, cond, ◌&&◌, if◌then◌else◌, ◌==◌, List, [], ◌∷◌, ◌++◌}
use Rattle.std.specs.List.{All, AllPairs, filter, flat_map, list_any, position_from}
use Rattle.std.specs.FinSet as set
use Rattle.md_graph.specs.declared.TheConstants.{NAMES}
use Rattle.md_graph.specs.Sets.{NameSet}
use Rattle.md_graph.specs.NameSet.{ascending}

-- an ordered partition: its classes in order, each the ascending list of its names; and the touched
-- names, ascending
pub record Classes : Type 0 where
  pub classes : List (List ℕ)
  pub touched : List ℕ

-- v is in the list
abbrev pub is_in : List ℕ → ℕ → Bool
is_in xs v = list_any (λ x. x == v) xs

-- v is a name of one of the classes
abbrev pub is_name : List (List ℕ) → ℕ → Bool
is_name classes v = list_any (λ c. is_in c v) classes

-- how many of the classes have the name v
abbrev pub holders : ℕ → List (List ℕ) → ℕ
holders v [] = 0
holders v (c ∷ cs) = cond (is_in c v) 1 0 + holders v cs

-- the position of the first class with the name v, or none
abbrev pub class_position : List (List ℕ) → ℕ → Option ℕ
class_position classes v = position_from (λ c. is_in c v) 0 classes

-- the names of the first class with the name v, or none
abbrev pub class_with : ℕ → List (List ℕ) → List ℕ
class_with v [] = []
class_with v (c ∷ cs) = if is_in c v then c else class_with v cs

-- each class has a name and is ascending, no two classes share a name, all names are below NAMES;
-- the touched names are ascending, and names of classes
pub record ArePartition (p : Classes) : Type 0 where
  pub filled : All (λ c. c ≢ []) p.classes
  pub order : All (AllPairs (λ x y. x < y)) p.classes
  pub apart : (v : ℕ) → holders v p.classes ≤ 1
  pub names : (v : ℕ) → is_name p.classes v ≡ true → v < NAMES
  pub touched_order : AllPairs (λ x y. x < y) p.touched
  pub touched_names : (v : ℕ) → is_in p.touched v ≡ true → is_name p.classes v ≡ true

-- the class alone, or no class where it has no name
abbrev pub unless_empty : List ℕ → List (List ℕ)
unless_empty [] = []
unless_empty (x ∷ xs) = (x ∷ xs) ∷ []

-- a class cut in two: its names that pass the test, and then its other names, without an empty part
abbrev pub parts : (ℕ → Bool) → List ℕ → List (List ℕ)
parts test c = unless_empty (filter test c) ++ unless_empty (filter (λ v. not (test v)) c)

-- the cut of the classes by a set: in place of each class its members in the set and then its
-- other members
abbrev pub cut : NameSet → List (List ℕ) → List (List ℕ)
cut s classes = flat_map (parts (set.contains s)) classes

-- the cut by a set of the classes without p; a class with p stays
abbrev pub cut_outside : ℕ → NameSet → List (List ℕ) → List (List ℕ)
cut_outside p s classes = flat_map (λ c. if is_in c p then c ∷ [] else parts (set.contains s) c) classes

-- v is a name of one of the classes, but not of the class of p
abbrev pub is_outside : ℕ → List (List ℕ) → ℕ → Bool
is_outside p classes v = is_name classes v && not (is_in (class_with p classes) v)

-- the members of the set that are names of the classes, ascending
abbrev pub met : NameSet → List (List ℕ) → List ℕ
met s classes = filter (is_name classes) (ascending s)

-- the set has one class, or none where it is empty
abbrev pub one_class : NameSet → Classes
one_class s = record { classes = unless_empty (ascending s); touched = [] }

-- v becomes touched
abbrev pub touching : Classes → ℕ → Classes
touching p v = record { classes = p.classes; touched = p.touched ++ v ∷ [] }

-- the class of t is cut in two by the touched names, and its names are untouched
abbrev pub settled_at : ℕ → Classes → Classes
settled_at t p = record {
  classes = flat_map (λ c. if is_in c t then parts (is_in p.touched) c else c ∷ []) p.classes;
  touched = filter (λ v. not (is_in (class_with t p.classes) v)) p.touched;
}

-- settled at the first touched name of the list, if there is one
abbrev pub settled_by : List ℕ → Classes → Classes
settled_by [] p = p
settled_by (t ∷ ts) p = settled_at t p

-- the class of the least touched name is cut in two, if there is one
abbrev pub settled : Classes → Classes
settled p = settled_by p.touched p
