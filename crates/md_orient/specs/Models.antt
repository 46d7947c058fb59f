-- The answer on permutation models, and the places at which its orders have the vertices.
-- Source: Golumbic, Algorithmic Graph Theory and Perfect Graphs, chapter 7.
use Rattle.std.specs.Prelude.{◌≡◌, ◌<◌, ◌||◌, ◌⊎◌, ℕ, Bool, true, false, Some, List, length, slice_get}
use Rattle.std.specs.FinSet as set
use Rattle.md_graph.specs.Sets.{NameSet, Has}
use Rattle.md_graph.specs.PlainGraph.{PlainGraph, adjacent}
use Rattle.md_graph.specs.Rows.{row_of}
use Rattle.md_forcing.specs.declared.arc.Arc.{Arc}
use Rattle.md_forcing.specs.declared.arc_set.Side.TheVariants.{NonEdges}
use Rattle.md_forcing.specs.Forcing.{arc}
use Rattle.md_forcing.specs.ArcSet.{HasArc}
use Rattle.md_forcing.specs.Sides.{adjacent_on}
use Rattle.md_comparability.specs.Chains.{HasForcingChain, IsShortestChain}
use Rattle.md_comparability.specs.Orders.{Realise, place_in}
use Rattle.md_orient.specs.declared.permutation.PermVerdict.{PermVerdict}
use Rattle.md_orient.specs.declared.permutation.PermVerdict.TheVariants.{Orders, ForcedIn, ForcedInComplement}

-- a shortest forcing chain of the graph; where it has none, one of its complement; or two orders that realise the graph, which
-- there are exactly where neither has a chain
abbrev pub IsModel : PlainGraph → PermVerdict → Type 0
IsModel g (Orders first second) = Realise (adjacent g) g.vertices first second
IsModel g (ForcedIn chain) = IsShortestChain (adjacent g) chain
IsModel g (ForcedInComplement chain) = (¬ HasForcingChain (adjacent g)) × IsShortestChain (adjacent_on NonEdges g) chain

-- two sets of arcs on s, with room for each member of s, of which no arc of the one joins the ends of an arc of the other
pub record AreSides (s : NameSet) (edges others : List NameSet) : Type 0 where
  pub room : (v : ℕ) → Has s v → v < length edges
  pub other_room : (v : ℕ) → Has s v → v < length others
  pub tails : (a : Arc) → HasArc edges a → Has s a.tail
  pub heads : (a : Arc) → HasArc edges a → Has s a.head
  pub other_tails : (a : Arc) → HasArc others a → Has s a.tail
  pub apart : (u v : ℕ) → HasArc edges (arc u v) → HasArc others (arc u v) ⊎ HasArc others (arc v u) → ⊥

-- whether the set has the arc from u to v
abbrev pub has_arc : List NameSet → ℕ → ℕ → Bool
has_arc rows u v = set.contains (row_of rows u) v

-- whether u comes before v: by an arc of the first set, turned or not, or by one of the second
abbrev pub comes_before : List NameSet → List NameSet → Bool → ℕ → ℕ → Bool
comes_before edges others false = λ u v. has_arc edges u v || has_arc others u v
comes_before edges others true = λ u v. has_arc edges v u || has_arc others u v

-- the list has each member of s at its place in the order of the test, and nothing more
pub record ArePlaced (r : ℕ → ℕ → Bool) (s : NameSet) (list : List ℕ) : Type 0 where
  pub size : length list ≡ set.len s
  pub each : (v : ℕ) → Has s v → slice_get list (place_in r s v) ≡ Some v
