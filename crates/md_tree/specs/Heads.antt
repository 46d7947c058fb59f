-- Heads of trees, and what the heads of the children of a node tell of the node.
-- Source: Habib and Paul, A survey of the algorithmic aspects of modular decomposition; the test of a given tree is our own.
use Rattle.std.specs.Prelude.{◌≡◌, ◌<◌, ◌↔◌, ℕ, zero, suc, List}
use Rattle.std.specs.FinSet.{empty, insert}
use Rattle.md_graph.specs.Sets.{NameSet, Has}
use Rattle.md_modules.specs.Modules.{IsModule, IsMaximalStrong, HasTrivialModulesAlone}
use Rattle.md_tree.specs.Trees.{PlainTreeOf, leaf, node, PlainTreesOf, no_tree, one_more, names_below, names_at, count}
use Rattle.md_tree.specs.WellFormed.{AreDisjoint}

abbrev mutual
  -- the head of a tree: its first leaf
  pub head : {K P : Type 0} → PlainTreeOf K P → ℕ
  head (leaf v) = v
  head (node k cs ps) = head_at cs 0

  -- the head of the tree at a position, counted from 0; past the end 0
  pub head_at : {K P : Type 0} → PlainTreesOf K P → ℕ → ℕ
  head_at no_tree i = 0
  head_at (one_more t ts) zero = head t
  head_at (one_more t ts) (suc i) = head_at ts i

-- the heads of the trees
abbrev pub heads : {K P : Type 0} → PlainTreesOf K P → NameSet
heads no_tree = empty
heads (one_more t ts) = insert (heads ts) (head t)

-- the colour v runs from each head to those after it
abbrev pub HeadsAlong : {K P C : Type 0} → (ℕ → ℕ → C) → PlainTreesOf K P → C → Type 0
HeadsAlong e cs v = (i j : ℕ) → i < j → j < count cs → e (head_at cs i) (head_at cs j) ≡ v

-- the trees have no name in common, each has its head, and their leaf sets are modules of all their names
pub record AreChildModules {K P C : Type 0} (e : ℕ → ℕ → C) (cs : PlainTreesOf K P) : Type 0 where
  pub apart : AreDisjoint cs
  pub heads : (i : ℕ) → i < count cs → Has (names_at cs i) (head_at cs i)
  pub modules : (i : ℕ) → i < count cs → IsModule e (names_below cs) (names_at cs i)

-- the leaf sets of the trees are the children of all their names in the tree of strong modules
abbrev pub AreStrongChildren : {K P C : Type 0} → (ℕ → ℕ → C) → PlainTreesOf K P → Type 0
AreStrongChildren e cs = (m : NameSet) → IsMaximalStrong e (names_below cs) m ↔ ((i : ℕ) × (i < count cs) × (m ≡ names_at cs i))

-- a node of kind k with the children cs and the pairs ps fits the pairs of s with their colours e, where `puts` says which colour a node puts
-- between two of its children, the earlier one first
pub record IsFitNodeBy {K P C : Type 0} (puts : K → List P → ℕ → ℕ → C) (IsPrimeKind : K → Type 0) (e : ℕ → ℕ → C) (s : NameSet)
    (k : K) (cs : PlainTreesOf K P) (ps : List P) : Type 0 where
  -- the leaf set of the node is a module of s
  pub is_module : IsModule e s (names_below cs)
  -- the heads of two children have the colour that the node puts between the two
  pub joined : (i j : ℕ) → i < j → j < count cs → e (head_at cs i) (head_at cs j) ≡ puts k ps i j
  -- the heads of a prime node's children have trivial modules alone
  pub trivial : IsPrimeKind k → HasTrivialModulesAlone e (heads cs)
