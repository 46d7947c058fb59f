-- How large the first of some graphs is.
-- Source: B. McKay, "Description of graph6, sparse6 and digraph6 encodings", whose lines begin with the number of vertices.
use Rattle.std.specs.Prelude.{◌≡◌, ℕ, ◌≤◌, List, [], ◌∷◌, ◌++◌}
use Rattle.md_graph.specs.declared.TheConstants.{NAMES}
use Rattle.md_graph.specs.NameSet.{AllBelow}
use Rattle.md_graph.specs.PlainGraph.{PlainGraph}
use Rattle.md_graph6.specs.Size.{size_text, most_in_four_bytes}

-- the first graph, if there is one, has all its vertices below n
abbrev pub FirstBelow : ℕ → List PlainGraph → Type 0
FirstBelow n [] = Unit {0}
FirstBelow n (g ∷ more) = AllBelow g.vertices n

-- n is the least number above all vertices of the first graph, or 0 if there is none
pub record IsFirstBound (n : ℕ) (graphs : List PlainGraph) : Type 0 where
  pub below : FirstBelow n graphs
  pub least : (m : ℕ) → FirstBelow m graphs → n ≤ m
  pub few : n ≤ NAMES

-- a text begins with the shortest spelling of n, which takes at most four bytes
pub record BeginsWithSize (n : ℕ) (text : List ℕ) : Type 0 where
  pub behind : List ℕ
  pub whole : text ≡ size_text n ++ behind
  pub small : n ≤ most_in_four_bytes
