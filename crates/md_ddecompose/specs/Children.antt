-- The children of a set of names in the tree of a directed graph, as a list of sets, and the pairs of them that a node lists. Only
-- private contracts cite it.
-- Source: McConnell and de Montgolfier, Linear-time modular decomposition of directed graphs; the order is our own.
use Rattle.std.specs.Prelude.{◌≡◌, ◌≢◌, ◌↔◌, ℕ, Bool, true, List, [], Contains, AllPairs, Option, Some, None, ⊤}
use Rattle.md_graph.specs.Sets.{NameSet, Has}
use Rattle.md_modules.specs.Modules.{IsMaximalStrong}
use Rattle.md_digraph.specs.ArcColours.{between, no_arc, both_arcs}
use Rattle.md_tree.specs.StrongTrees.{ListsExactly}
use Rattle.md_decompose.specs.Children.{set_at}
use Rattle.md_dtree.specs.declared.DKind.{DKind}
use Rattle.md_dtree.specs.declared.DKind.TheVariants.{Parallel, Series, Order, Prime}
use Rattle.md_dtree.specs.declared.DPair.{DPair}
use Rattle.md_dtree.specs.DirectedSpelling.{directed_pairs}
use Rattle.md_dtree.specs.DirectedTrees.{arc_forth, SplitsWith, StandsBefore}

-- the list has exactly the maximal proper strong modules of s, in the order of the children of a node of kind k
pub record AreDirectedChildren (arc : ℕ → ℕ → Bool) (s : NameSet) (k : DKind) (cs : List NameSet) : Type 0 where
  pub exactly : (m : NameSet) → IsMaximalStrong (between arc) s m ↔ Contains cs m
  pub order : AllPairs (StandsBefore arc k) cs

-- a child of a parallel, a series or an order node doesn't split as the node does
abbrev pub DiffersFrom : (ℕ → ℕ → Bool) → NameSet → Option DKind → Type 0
DiffersFrom arc s (Some Parallel) = ¬ (SplitsWith arc s no_arc)
DiffersFrom arc s (Some Series) = ¬ (SplitsWith arc s both_arcs)
DiffersFrom arc s (Some Order) = ¬ (SplitsWith arc s arc_forth)
DiffersFrom arc s (Some Prime) = ⊤
DiffersFrom arc s None = ⊤

-- the positions differ, and an arc runs from the set at i to that at j
pub record IsArcOfSets (arc : ℕ → ℕ → Bool) (cs : List NameSet) (i j : ℕ) : Type 0 where
  pub differ : i ≢ j
  pub runs : (a : ℕ) × (b : ℕ) × Has (set_at cs i) a × Has (set_at cs j) b × (arc a b ≡ true)

-- a prime node lists the pairs of its children with arcs from the one to the other, and no other node lists pairs
abbrev pub ListsArcsFor : (ℕ → ℕ → Bool) → DKind → List NameSet → List DPair → Type 0
ListsArcsFor arc Parallel cs ps = ps ≡ []
ListsArcsFor arc Series cs ps = ps ≡ []
ListsArcsFor arc Order cs ps = ps ≡ []
ListsArcsFor arc Prime cs ps = ListsExactly directed_pairs (IsArcOfSets arc cs) ps
