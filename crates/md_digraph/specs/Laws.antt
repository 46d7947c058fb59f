-- The laws of directed graphs.
-- Source: any textbook on directed graphs.
use Rattle.std.specs.Prelude.{◌≡◌, ◌↔◌, ◌⊎◌, ℕ, Bool, true, false}
use Rattle.std.specs.FinSet as set
use Rattle.md_graph.specs.Sets.{NameSet, Has, Lacks, Within, HasSome}
use Rattle.md_modules.specs.Modules.{IsModule, IsMaximalStrong}
use Rattle.md_modules.specs.Kinds.{IsSplit}
use Rattle.md_modules.specs.Components.{IsComponent}
use Rattle.md_digraph.specs.PlainDigraph.{PlainDigraph, IsDigraph, empty_digraph}
use Rattle.md_digraph.specs.ArcColours.{ArcColour, between, no_arc, both_arcs}

-- a directed graph whose set of vertices is empty is the empty one
abbrev pub DigraphWithoutVerticesIsEmpty : Type 0
DigraphWithoutVerticesIsEmpty = (g : PlainDigraph) → IsDigraph g → g.vertices ≡ set.empty →
    g ≡ empty_digraph

-- a name has arcs to all names of a set or to none, and arcs from all of them or from none
pub record SeesAlike (arc : ℕ → ℕ → Bool) (m : NameSet) (x : ℕ) : Type 0 where
  pub out : ((a : ℕ) → Has m a → arc x a ≡ true) ⊎ ((a : ℕ) → Has m a → arc x a ≡ false)
  pub into : ((a : ℕ) → Has m a → arc a x ≡ true) ⊎ ((a : ℕ) → Has m a → arc a x ≡ false)

-- a module of a directed graph is a nonempty part of s that each name of s outside sees alike
abbrev pub DirectedModulesAreSeenAlike : Type 0
DirectedModulesAreSeenAlike = (arc : ℕ → ℕ → Bool) → (s m : NameSet) →
    IsModule (between arc) s m
    ↔ (HasSome m × Within m s × ((x : ℕ) → Has s x → Lacks m x → SeesAlike arc m x))

-- where s splits with a colour, its children in the tree of strong modules are exactly its
-- components of that colour
abbrev pub ComponentsAreChildren : (ℕ → ℕ → Bool) → NameSet → ArcColour → Type 0
ComponentsAreChildren arc s colour = (part : NameSet) → IsSplit (between arc) s part colour →
    (c : NameSet) → IsMaximalStrong (between arc) s c
    ↔ ((x : ℕ) × IsComponent (between arc) s x c colour)

-- the children of a set that splits without an arc across are its components by arcs; those of one
-- that splits with both arcs across are its components by the lack of an arc
abbrev pub DirectedChildrenAreComponents : Type 0
DirectedChildrenAreComponents = (arc : ℕ → ℕ → Bool) → (s : NameSet) →
    ComponentsAreChildren arc s no_arc × ComponentsAreChildren arc s both_arcs
