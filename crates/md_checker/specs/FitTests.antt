-- What a test looks at in a node of a tree: names that stand for its children, the colours of their pairs, and the others.
-- Source: Habib and Paul, A survey of the algorithmic aspects of modular decomposition, for the node; the test is our own.
use Rattle.std.specs.Prelude.{◌≡◌, ◌<◌, ℕ, Bool, List, [], ◌∷◌, length, get_or, ⊤}
use Rattle.std.specs.FinSet.{from_list}
use Rattle.md_graph.specs.Sets.{NameSet, Has, only_name}
use Rattle.md_modules.specs.Modules.{HasTrivialModulesAlone}
use Rattle.md_tree.specs.declared.Kind.{Kind}
use Rattle.md_tree.specs.declared.Pair.{Pair}
use Rattle.md_tree.specs.TreeGraph.{joins}

-- the set has one member
abbrev pub IsSingle : NameSet → Type 0
IsSingle s = (v : ℕ) × (s ≡ only_name v)

-- each of the sets has one member
abbrev pub AreSingle : List NameSet → Type 0
AreSingle [] = ⊤
AreSingle (s ∷ rest) = IsSingle s × AreSingle rest

-- each of the others is adjacent to all names of the list or to none (of any colours: its pairs with them have one colour)
abbrev pub AreAlike : {C : Type 0} → (ℕ → ℕ → C) → NameSet → List ℕ → Type 0
AreAlike e others list = (i y : ℕ) → i < length list → Has others y → e (get_or list 0 0) y ≡ e (get_or list i 0) y

-- two names of the list have the colour that `puts` says for their positions, the earlier one first
abbrev pub AreJoinedBy : {C : Type 0} → (ℕ → ℕ → C) → (ℕ → ℕ → C) → List ℕ → Type 0
AreJoinedBy puts e list = (i j : ℕ) → i < j → j < length list → e (get_or list i 0) (get_or list j 0) ≡ puts i j

-- two names of the list are adjacent where a node of kind k that lists ps joins their positions
abbrev pub AreJoined : (ℕ → ℕ → Bool) → Kind → List Pair → List ℕ → Type 0
AreJoined e k ps = AreJoinedBy (joins k ps) e

-- a node of kind k outside of which are the others, with the pairs ps and these heads, fits the pairs of names with their colours e,
-- where its children do; `puts` says which colour a node puts between two of its children, the earlier one first
pub record IsFitBy {K P C : Type 0} (puts : K → List P → ℕ → ℕ → C) (IsPrimeKind : K → Type 0) (e : ℕ → ℕ → C) (others : NameSet)
    (k : K) (ps : List P) (list : List ℕ) : Type 0 where
  pub alike : AreAlike e others list
  pub joined : AreJoinedBy (puts k ps) e list
  pub trivial : IsPrimeKind k → HasTrivialModulesAlone e (from_list list)
