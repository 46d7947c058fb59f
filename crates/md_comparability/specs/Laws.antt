-- The laws of forcing chains and orientations.
-- Source: Golumbic, Algorithmic Graph Theory and Perfect Graphs, chapter 5.
use Rattle.std.specs.Prelude.{◌≡◌, ◌≢◌, ◌<◌, ◌⊎◌, ◌↔◌, ℕ, Bool, true, false, List}
use Rattle.md_graph.specs.declared.TheConstants.{NAMES}
use Rattle.md_graph.specs.PlainGraph.{PlainGraph, IsGraph}
use Rattle.md_graph.specs.Sets.{NameSet, Has}
use Rattle.md_graph.specs.Adjacency.{IsAdjacency}
use Rattle.md_forcing.specs.declared.arc.Arc.{Arc}
use Rattle.md_forcing.specs.declared.arc_set.Side.{Side}
use Rattle.md_forcing.specs.declared.arc_set.Side.TheVariants.{Edges, NonEdges}
use Rattle.md_forcing.specs.Forcing.{arc, reverse, Reaches}
use Rattle.md_forcing.specs.Sides.{adjacent_on}
use Rattle.md_comparability.specs.Chains.{HasForcingChain, IsShortestChain}
use Rattle.md_comparability.specs.Orientations.{IsTransitiveOrientation, HasTransitiveOrientation, IsChosen, IsLeastEdgeOrientation}
use Rattle.md_comparability.specs.Orders.{Realise}

-- the triangle of a, u and v stands, and a>b and a>c reach a>u and a>v
pub record IsMoved (e : ℕ → ℕ → Bool) (a b c u v : ℕ) : Type 0 where
  pub first : e a u ≡ true
  pub second : e a v ≡ true
  pub left : Reaches e (arc a b) (arc a u)
  pub right : Reaches e (arc a c) (arc a v)

-- Let a, b, c be a triangle, and let b>c reach neither a>c nor b>a. If b>c reaches u>v, then a, u, v is a triangle,
-- a>b reaches a>u, and a>c reaches a>v.
abbrev pub TriangleLemma : Type 0
TriangleLemma =
    (e : ℕ → ℕ → Bool) → IsAdjacency e → (a b c u v : ℕ) → e a b ≡ true → e a c ≡ true →
    ¬ Reaches e (arc b c) (arc a c) → ¬ Reaches e (arc b c) (arc b a) → Reaches e (arc b c) (arc u v) → IsMoved e a b c u v

-- the ends of each edge are below n
abbrev pub IsBelow : (ℕ → ℕ → Bool) → ℕ → Type 0
IsBelow e n = (u v : ℕ) → e u v ≡ true → (u < n) × (v < n)

-- A class that doesn't hold the reverse of its arc is transitive.
abbrev pub ClassesAreTransitive : Type 0
ClassesAreTransitive =
    (e : ℕ → ℕ → Bool) → IsAdjacency e → (n : ℕ) → IsBelow e n → (a : Arc) → ¬ Reaches e a (reverse a) →
    (u v w : ℕ) → Reaches e a (arc u v) → Reaches e a (arc v w) → Reaches e a (arc u w)

-- the test is true exactly for the arcs of the least-edge orientation
abbrev pub IsTestOfChosen : (ℕ → ℕ → Bool) → (ℕ → ℕ → Bool) → Type 0
IsTestOfChosen e f = (u v : ℕ) → (f u v ≡ true) ↔ IsChosen e (arc u v)

-- The least-edge orientation has a test; and where no arc reaches its reverse, it is a transitive orientation.
pub record HasLeastEdgeOrientation (e : ℕ → ℕ → Bool) : Type 0 where
  pub test : (f : ℕ → ℕ → Bool) × IsTestOfChosen e f
  pub transitive : (f : ℕ → ℕ → Bool) → IsTestOfChosen e f → ((a : Arc) → ¬ Reaches e a (reverse a)) → IsTransitiveOrientation e f

abbrev pub LeastEdgeIsTransitive : Type 0
LeastEdgeIsTransitive = (e : ℕ → ℕ → Bool) → IsAdjacency e → (n : ℕ) → IsBelow e n → HasLeastEdgeOrientation e

-- A graph has a forcing chain or a transitive orientation, and not both; it has a chain exactly where an arc reaches its
-- reverse.
pub record HasChainOrOrientation (e : ℕ → ℕ → Bool) : Type 0 where
  pub one : HasForcingChain e ⊎ HasTransitiveOrientation e
  pub not_both : HasForcingChain e → HasTransitiveOrientation e → ⊥
  pub chain : HasForcingChain e ↔ ((a : Arc) × Reaches e a (reverse a))

abbrev pub ChainOrOrientation : Type 0
ChainOrOrientation = (e : ℕ → ℕ → Bool) → IsAdjacency e → (n : ℕ) → IsBelow e n → HasChainOrOrientation e

-- A graph with a forcing chain has a shortest one.
abbrev pub ChainHasShortest : Type 0
ChainHasShortest =
    (e : ℕ → ℕ → Bool) → IsAdjacency e → (n : ℕ) → IsBelow e n → HasForcingChain e → (list : List Arc) × IsShortestChain e list

-- There is one list of the arcs of the least-edge orientation in ascending order, and one alone.
pub record HasOneList (e : ℕ → ℕ → Bool) : Type 0 where
  pub some : (list : List Arc) × IsLeastEdgeOrientation e list
  pub one : (list other : List Arc) → IsLeastEdgeOrientation e list → IsLeastEdgeOrientation e other → list ≡ other

abbrev pub OneLeastEdgeOrientation : Type 0
OneLeastEdgeOrientation = (e : ℕ → ℕ → Bool) → IsAdjacency e → (n : ℕ) → IsBelow e n → HasOneList e

-- the complement of the graph on s: different names of s that e has apart
pub record IsComplementOn (s : NameSet) (e other : ℕ → ℕ → Bool) : Type 0 where
  pub apart : (u v : ℕ) → Has s u → Has s v → u ≢ v → (other u v ≡ true) ↔ (e u v ≡ false)
  pub ends : (u v : ℕ) → e u v ≡ true → Has s u × Has s v
  pub other_ends : (u v : ℕ) → other u v ≡ true → Has s u × Has s v

-- Transitive orientations of a graph and of its complement give two orders that realise the graph.
abbrev pub OrientationsGiveOrders : Type 0
OrientationsGiveOrders =
    (e other f g : ℕ → ℕ → Bool) (s : NameSet) → IsAdjacency e → IsAdjacency other → IsComplementOn s e other →
    IsTransitiveOrientation e f → IsTransitiveOrientation other g → (p : List ℕ) × (q : List ℕ) × Realise e s p q

-- Two orders realise a graph exactly where neither it nor its complement has a forcing chain.
abbrev pub OrdersIfNoChain : Type 0
OrdersIfNoChain =
    (e other : ℕ → ℕ → Bool) (s : NameSet) → IsAdjacency e → IsAdjacency other → IsComplementOn s e other →
    (n : ℕ) → IsBelow e n → IsBelow other n →
    ((p : List ℕ) × (q : List ℕ) × Realise e s p q) ↔ (¬ HasForcingChain e × ¬ HasForcingChain other)

-- what a side of a graph has
pub record MeetsPremises (e : ℕ → ℕ → Bool) : Type 0 where
  pub adjacency : IsAdjacency e
  pub below : IsBelow e NAMES

-- what both sides of a graph have
pub record HasTwoSides (g : PlainGraph) : Type 0 where
  pub side : (side : Side) → MeetsPremises (adjacent_on side g)
  pub complement : IsComplementOn g.vertices (adjacent_on Edges g) (adjacent_on NonEdges g)

-- Both sides of each graph meet the premises of the laws.
abbrev pub SidesMeetPremises : Type 0
SidesMeetPremises = (g : PlainGraph) → IsGraph g → HasTwoSides g
