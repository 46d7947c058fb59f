-- One turn of a decomposition: a set is taken apart, which gives one part of the tree and the sets of its children.
-- Source: top-down modular decomposition, as in Habib and Paul, A survey of the algorithmic aspects of modular decomposition.
use Rattle.std.specs.Prelude.{◌≡◌, ◌≤◌, ℕ, zero, suc, Bool, List, [], ◌∷◌, ◌++◌, map, reverse, take, drop, length, Contains, Option, Some, ⊤}
use Rattle.std.specs.FinSet.{len}
use Rattle.md_graph.specs.Sets.{NameSet, HasSome, HasTwo, only_name}
use Rattle.md_tree.specs.declared.Kind.{Kind}
use Rattle.md_tree.specs.declared.Kind.TheVariants.{Parallel, Series, Prime}
use Rattle.md_tree.specs.declared.Pair.{Pair}
use Rattle.md_tree.specs.StrongTrees.{HasKind}
use Rattle.md_decompose.specs.declared.decomposition.Open.{Open}
use Rattle.md_decompose.specs.declared.decomposition.Open.TheVariants.{One, Several}
use Rattle.md_tree.specs.Parts.{PlainPart, name, inner}
use Rattle.md_outline.specs.declared.outline.OutlinePart.{OutlinePart}
use Rattle.md_outline.specs.declared.outline.OutlinePart.TheVariants.{Name, Node}
use Rattle.md_decompose.specs.Children.{AreChildren, ListsPairs, FitsBelow}
use Rattle.md_decompose.specs.declared.nested_modules.Nested.{Nested}
use Rattle.md_decompose.specs.Chains.{IsChainOf, IsChainFront}

-- the names of what waits
abbrev pub open_names : {w : ℕ} → Open w → NameSet
open_names (One v) = only_name v
open_names (Several b) = b.names

-- the set s below a node of kind p, if there is one, with a chain; a set of one name waits as a vertex alone
abbrev pub IsOpenOf : {w : ℕ} → NameSet → Option Kind → Nested → Open w → Type 0
IsOpenOf s p chain (One v) = s ≡ only_name v
IsOpenOf s p chain (Several b) = (b ≡ record { names = s; parent = p; chain = chain }) × (HasSome s → HasTwo s)

-- what waits as a set has two names or more
abbrev pub IsNoVertexAlone : {w : ℕ} → Open w → Type 0
IsNoVertexAlone (One v) = ⊤
IsNoVertexAlone (Several b) = HasTwo b.names

-- a set below a node of kind p, with two names or more if it has one, or a vertex alone
abbrev pub IsUnder : {w : ℕ} → Option Kind → Open w → Type 0
IsUnder p (One v) = ⊤
IsUnder p (Several b) = (b.parent ≡ p) × (HasSome b.names → HasTwo b.names)

-- the kind of a set fits that of the node above
abbrev pub FitsOpen : {w : ℕ} → (ℕ → ℕ → Bool) → Open w → Type 0
FitsOpen e (One v) = ⊤
FitsOpen e (Several b) = FitsBelow e b.names b.parent

-- the chain of a set has modules of it
abbrev pub HasChain : {w : ℕ} → (ℕ → ℕ → Bool) → Open w → Type 0
HasChain e (One v) = ⊤
HasChain e (Several b) = IsChainOf e b.names b.chain

-- the chain of a set has no module
abbrev pub HasNoChain : {w : ℕ} → Open w → Type 0
HasNoChain (One v) = ⊤
HasNoChain (Several b) = (b.chain.taken.items ≡ []) × (b.chain.steps.items ≡ [])

-- the chain of a set is a front of another one, with modules of at most n names
abbrev pub HasFront : {w : ℕ} → Nested → ℕ → Open w → Type 0
HasFront chain n (One v) = ⊤
HasFront chain n (Several b) = IsChainFront chain n b.chain

-- the sets that are to be taken apart
abbrev pub sets_of : {w : ℕ} → List (Open w) → List NameSet
sets_of os = map open_names os

-- os are the sets cs below a node of kind k, with chains without modules
abbrev pub AreBare : {w : ℕ} → Kind → List NameSet → List (Open w) → Type 0
AreBare {w} k cs os = (sets_of os ≡ cs) × ((o : Open w) → Contains os o → IsUnder (Some k) o × HasNoChain o)

-- o is the set c below a node of kind k, with a front of a chain: modules with at most as many names as c
pub record IsFirstOpen {w : ℕ} (k : Kind) (c : NameSet) (chain : Nested) (o : Open w) : Type 0 where
  pub is : open_names o ≡ c
  pub below : IsUnder (Some k) o
  pub front : HasFront chain (len c) o

-- os are the sets cs below a node of kind k; the first one has a front of a chain, and the others have none
abbrev pub AreOpen : {w : ℕ} → Kind → List NameSet → Nested → List (Open w) → Type 0
AreOpen {w} k [] chain os = os ≡ []
AreOpen {w} k (c ∷ cs) chain os =
    (o : Open w) × (us : List (Open w)) × (os ≡ o ∷ us) × IsFirstOpen k c chain o × AreBare k cs us

-- os are the sets cs from the n-th on below a node of kind k; the first of all has a front of a chain, and the others have none
abbrev pub AreOpenFrom : {w : ℕ} → Kind → ℕ → List NameSet → Nested → List (Open w) → Type 0
AreOpenFrom {w} k zero cs chain os = AreOpen k cs chain os
AreOpenFrom {w} k (suc n) cs chain os = AreBare k (drop (suc n) cs) os

-- a prime node lists the pairs of its children between which an edge runs, and no other node lists pairs
abbrev pub ListsForKind : (ℕ → ℕ → Bool) → Kind → List NameSet → List Pair → Type 0
ListsForKind e Parallel cs ps = ps ≡ []
ListsForKind e Series cs ps = ps ≡ []
ListsForKind e Prime cs ps = ListsPairs e cs ps

-- the set s has the kind k and n children, and os are their sets in order, still to be taken apart
pub record IsNode {w : ℕ} (e : ℕ → ℕ → Bool) (s : NameSet) (k : Kind) (n : ℕ) (os : List (Open w)) : Type 0 where
  pub kind : HasKind e s k
  pub children : AreChildren e s (sets_of os)
  pub number : n ≡ length (sets_of os)
  pub each : (o : Open w) → Contains os o → IsUnder (Some k) o × HasChain e o

-- p is the part of the set s, and os are the sets of its children
abbrev pub IsPartOf : {w : ℕ} → (ℕ → ℕ → Bool) → NameSet → PlainPart → List (Open w) → Type 0
IsPartOf {w} e s (name v) os = (s ≡ only_name v) × (os ≡ [])
IsPartOf {w} e s (inner k n ps) os = IsNode e s k n os × ListsForKind e k (sets_of os) ps

-- p is the part of the set s in an outline, and os are the sets of its children from the last to the first
abbrev pub IsOutlinePartOf : {w : ℕ} → (ℕ → ℕ → Bool) → NameSet → OutlinePart Kind → List (Open w) → Type 0
IsOutlinePartOf {w} e s (Name v) os = (s ≡ only_name v) × (os ≡ [])
IsOutlinePartOf {w} e s (Node k n) os = IsNode e s k n (reverse os)

-- a part comes behind the parts so far, and the sets that are found with it behind the waiting ones
abbrev pub TakesApart : {w : ℕ} {X : Type 0} → (X → List (Open w) → Type 0) → List X → List (Open w) → List X → List (Open w) → Type 0
TakesApart {w} {X} IsFound parts waiting parts' waiting' =
    (p : X) × (os : List (Open w)) × IsFound p os × (parts' ≡ parts ++ p ∷ []) × (waiting' ≡ waiting ++ os)

-- the first n of the sets are names alone, and their parts come behind the others
abbrev pub AreNamesPushed : ℕ → List NameSet → List (OutlinePart Kind) → List (OutlinePart Kind) → Type 0
AreNamesPushed n sets parts parts' = (vs : List ℕ) × (take n sets ≡ map only_name vs) × (n ≤ length sets) × (parts' ≡ parts ++ map Name vs)

-- a part comes behind the parts so far, and then names; of the sets that are found with the part those of the names are the last ones,
-- and the others come behind the waiting ones
abbrev pub TakesOutlined : {w : ℕ} → (OutlinePart Kind → List (Open w) → Type 0) → List (OutlinePart Kind) → List (Open w) → List (OutlinePart Kind) → List (Open w) → Type 0
TakesOutlined {w} IsFound parts waiting parts' waiting' =
    (p : OutlinePart Kind) × (vs : List ℕ) × (os : List (Open w)) × IsFound p (os ++ reverse (map One vs))
    × (parts' ≡ (parts ++ p ∷ []) ++ map Name vs) × (waiting' ≡ waiting ++ os)
