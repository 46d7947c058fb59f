-- Well-formed trees.
-- Source: Habib and Paul, A survey of the algorithmic aspects of modular decomposition; the order of the children is our own.
use Rattle.std.specs.Prelude.{◌≡◌, ◌≢◌, ◌≤◌, ℕ, Bool, true, false, List, [], Contains, AllPairs, ⊤, Option, Some, None}
use Rattle.md_graph.specs.Sets.{Disjoint}
use Rattle.md_graph.specs.declared.TheConstants.{NAMES}
use Rattle.md_graph.specs.NameSet.{AllBelow}
use Rattle.md_tree.specs.declared.Kind.{Kind}
use Rattle.md_tree.specs.declared.Kind.TheVariants.{Prime}
use Rattle.md_tree.specs.declared.Pair.{Pair}
use Rattle.md_tree.specs.Trees.{PlainTreeOf, PlainTreesOf, PlainTree, leaf, node, PlainTrees, no_tree, one_more, names, names_below, count, EachNode, EachNodeBelow}
use Rattle.md_tree.specs.StrongTrees.{IsInOrder}
use Rattle.md_tree.specs.Spellings.{Spelling, IsPairBeforeBy, graph_spelling}

-- the tree is a node of kind k
abbrev pub IsOfKind : {K P : Type 0} → PlainTreeOf K P → K → Type 0
IsOfKind (leaf v) k = ⊥
IsOfKind (node l cs ps) k = l ≡ k

-- none of the trees is a node of kind k
abbrev pub NoneOfKind : {K P : Type 0} → PlainTreesOf K P → K → Type 0
NoneOfKind no_tree k = ⊤
NoneOfKind (one_more t ts) k = (¬ (IsOfKind t k)) × NoneOfKind ts k

-- no two of the trees have a name in common
abbrev pub AreDisjoint : {K P : Type 0} → PlainTreesOf K P → Type 0
AreDisjoint no_tree = ⊤
AreDisjoint (one_more t ts) = Disjoint (names t) (names_below ts) × AreDisjoint ts

-- the trees stand in ascending order of their least names, if they have to
abbrev pub IsInOrderIf : {K P : Type 0} → Bool → PlainTreesOf K P → Type 0
IsInOrderIf true cs = IsInOrder cs
IsInOrderIf false cs = ⊤

module _ {K P : Type 0} (sp : Spelling K P) where
  -- a node that lists no pairs has enough children, none of its own kind
  pub record IsPlainNodeBy (k : K) (cs : PlainTreesOf K P) (ps : List P) : Type 0 where
    pub enough : sp.kinds.least_count k ≤ count cs
    pub other_kinds : NoneOfKind cs k
    pub no_pairs : ps ≡ []

  -- a node that lists pairs has enough children, and at least one pair of them, in ascending order
  pub record IsListingNode (k : K) (cs : PlainTreesOf K P) (ps : List P) : Type 0 where
    pub enough : sp.kinds.least_count k ≤ count cs
    pub some_pair : ps ≢ []
    pub ascending : AllPairs (IsPairBeforeBy sp.pairs) ps
    pub positions : (p : P) → Contains ps p → sp.pairs.IsOf (count cs) p

  abbrev pub HasShapeIf : Bool → K → PlainTreesOf K P → List P → Type 0
  HasShapeIf false = IsPlainNodeBy
  HasShapeIf true = IsListingNode

  -- the children of a node have no name in common, stand in order if its kind asks for it, and are as many and of such
  -- kinds as its kind asks
  pub record IsCanonicalNodeBy (k : K) (cs : PlainTreesOf K P) (ps : List P) : Type 0 where
    pub apart : AreDisjoint cs
    pub order : IsInOrderIf (sp.kinds.sorts k) cs
    pub shape : HasShapeIf (sp.kinds.lists k) k cs ps

  -- each node is as well-formed trees have it, so that the names differ
  abbrev pub IsCanonicalTreeBy : PlainTreeOf K P → Type 0
  IsCanonicalTreeBy = EachNode IsCanonicalNodeBy

  -- a tree is well-formed below a limit: its names are below it, and each node is as well-formed trees have it; so is no tree
  abbrev pub IsWellFormedBelow : ℕ → Option (PlainTreeOf K P) → Type 0
  IsWellFormedBelow limit None = ⊤
  IsWellFormedBelow limit (Some t) = AllBelow (names t) limit × IsCanonicalTreeBy t

-- a parallel or series node has two children or more, none of its own kind, and no pairs
abbrev pub IsPlainNode : Kind → PlainTrees → List Pair → Type 0
IsPlainNode = IsPlainNodeBy graph_spelling

-- a prime node has four children or more, and lists pairs of different positions of them, at least one, in ascending order
abbrev pub IsPrimeNode : PlainTrees → List Pair → Type 0
IsPrimeNode = IsListingNode graph_spelling Prime

abbrev pub HasShape : Kind → PlainTrees → List Pair → Type 0
HasShape k = HasShapeIf graph_spelling (graph_spelling.kinds.lists k) k

-- the same in the tree of a graph
abbrev pub IsCanonicalNode : Kind → PlainTrees → List Pair → Type 0
IsCanonicalNode = IsCanonicalNodeBy graph_spelling

abbrev pub IsCanonicalTree : PlainTree → Type 0
IsCanonicalTree = IsCanonicalTreeBy graph_spelling

-- no node of the tree is prime
abbrev pub HasNoPrimeNode : PlainTree → Type 0
HasNoPrimeNode = EachNode (λ k cs ps. k ≢ Prime)

-- no node of any of the trees is prime
abbrev pub HaveNoPrimeNode : PlainTrees → Type 0
HaveNoPrimeNode = EachNodeBelow (λ k cs ps. k ≢ Prime)

-- a well-formed tree of a graph, or none
abbrev pub IsWellFormed : Option PlainTree → Type 0
IsWellFormed = IsWellFormedBelow graph_spelling NAMES
