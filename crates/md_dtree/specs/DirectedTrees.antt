-- The tree of the strong modules of the directed graph on a set of names s whose arcs the test
-- `arc` tells.
-- Source: McConnell and de Montgolfier, Linear-time modular decomposition of directed graphs; the
-- order of the children is our own.
use Rattle.std.specs.Prelude.{◌≡◌, ◌≢◌, ℕ, Bool, true, false, List, [], Option}
use Rattle.md_graph.specs.Sets.{NameSet, Has, HasTwo}
use Rattle.md_modules.specs.Kinds.{IsSplit}
use Rattle.md_digraph.specs.declared.TheConstants.{DIRECTED_NAMES}
use Rattle.md_digraph.specs.ArcColours.{ArcColour, between, no_arc, both_arcs}
use Rattle.md_tree.specs.Trees.{PlainTreeOf, PlainTreesOf, names_at}
use Rattle.md_tree.specs.StrongTrees.{IsBefore, IsNodeBy, IsTreeBy, IsTreeOrNone, ListsExactly}
use Rattle.md_tree.specs.WellFormed.{IsCanonicalNodeBy, IsCanonicalTreeBy, IsWellFormedBelow}
use Rattle.md_dtree.specs.declared.DKind.{DKind}
use Rattle.md_dtree.specs.declared.DKind.TheVariants.{Parallel, Series, Order, Prime}
use Rattle.md_dtree.specs.declared.DPair.{DPair}
use Rattle.md_dtree.specs.DirectedSpelling.{directed_pairs, directed_spelling}

-- the trees of directed graphs
abbrev pub PlainDTree : Type 0
PlainDTree = PlainTreeOf DKind DPair

abbrev pub PlainDTrees : Type 0
PlainDTrees = PlainTreesOf DKind DPair

-- an arc there and none back: a split of this colour is one of an order
abbrev pub arc_forth : ArcColour
arc_forth = (true, false)

-- s splits into two nonempty parts, and all pairs from the one to the other have this colour
abbrev pub SplitsWith : (ℕ → ℕ → Bool) → NameSet → ArcColour → Type 0
SplitsWith arc s colour = (part : NameSet) × IsSplit (between arc) s part colour

-- s has two members, and splits neither without arcs, nor with both arcs, nor with the arcs there
-- alone
pub record IsDirectedPrime (arc : ℕ → ℕ → Bool) (s : NameSet) : Type 0 where
  pub two : HasTwo s
  pub not_parallel : ¬ (SplitsWith arc s no_arc)
  pub not_series : ¬ (SplitsWith arc s both_arcs)
  pub not_order : ¬ (SplitsWith arc s arc_forth)

-- s is of kind k
abbrev pub HasDirectedKind : (ℕ → ℕ → Bool) → NameSet → DKind → Type 0
HasDirectedKind arc s Parallel = SplitsWith arc s no_arc
HasDirectedKind arc s Series = SplitsWith arc s both_arcs
HasDirectedKind arc s Order = SplitsWith arc s arc_forth
HasDirectedKind arc s Prime = IsDirectedPrime arc s

-- an arc runs from each name of s to each name of t, and none back
abbrev pub AllArcsTo : (ℕ → ℕ → Bool) → NameSet → NameSet → Type 0
AllArcsTo arc s t = (a b : ℕ) → Has s a → Has t b → between arc a b ≡ arc_forth

-- at an order node all arcs run from earlier children to later ones; other children stand by their
-- least names
abbrev pub StandsBefore : (ℕ → ℕ → Bool) → DKind → NameSet → NameSet → Type 0
StandsBefore arc Parallel = IsBefore
StandsBefore arc Series = IsBefore
StandsBefore arc Order = AllArcsTo arc
StandsBefore arc Prime = IsBefore

-- the positions differ, and an arc runs from the tree at i to that at j
pub record IsArcPair (arc : ℕ → ℕ → Bool) (cs : PlainDTrees) (i j : ℕ) : Type 0 where
  pub differ : i ≢ j
  pub runs : (a : ℕ) × (b : ℕ) × Has (names_at cs i) a × Has (names_at cs j) b × (arc a b ≡ true)

-- a prime node lists the pairs of its children with arcs from the one to the other, and no other
-- node lists pairs
abbrev pub HasArcPairs : (ℕ → ℕ → Bool) → DKind → PlainDTrees → List DPair → Type 0
HasArcPairs arc Parallel cs ps = ps ≡ []
HasArcPairs arc Series cs ps = ps ≡ []
HasArcPairs arc Order cs ps = ps ≡ []
HasArcPairs arc Prime cs ps = ListsExactly directed_pairs (IsArcPair arc cs) ps

-- a node has the kind of its leaf set, its children in the order of that kind, and its pairs
abbrev pub IsDirectedNode : (ℕ → ℕ → Bool) → DKind → PlainDTrees → List DPair → Type 0
IsDirectedNode arc = IsNodeBy (HasDirectedKind arc) (StandsBefore arc) (HasArcPairs arc)

-- t is the tree of the strong modules of the directed graph on s
abbrev pub IsDirectedTreeOf : (ℕ → ℕ → Bool) → NameSet → PlainDTree → Type 0
IsDirectedTreeOf arc = IsTreeBy (IsDirectedNode arc) (between arc)

-- the tree of the directed graph on s, and none where s has no member
abbrev pub IsDirectedTree : (ℕ → ℕ → Bool) → NameSet → Option PlainDTree → Type 0
IsDirectedTree arc = IsTreeOrNone (IsDirectedNode arc) (between arc)

-- Each node is as well-formed trees have it: parallel, series and order nodes have two children or
-- more, none of their own kind, and no pairs; prime nodes have three or more, and at least one
-- pair, of different positions, in ascending order; children have no name in common and stand by
-- their least names, except in order nodes.
abbrev pub IsCanonicalDNode : DKind → PlainDTrees → List DPair → Type 0
IsCanonicalDNode = IsCanonicalNodeBy directed_spelling

abbrev pub IsCanonicalDTree : PlainDTree → Type 0
IsCanonicalDTree = IsCanonicalTreeBy directed_spelling

-- a tree of a directed graph is well-formed: its names are below the limit of these, and each node
-- is as well-formed trees have it; so is no tree
abbrev pub IsWellFormedDirected : Option PlainDTree → Type 0
IsWellFormedDirected = IsWellFormedBelow directed_spelling DIRECTED_NAMES
