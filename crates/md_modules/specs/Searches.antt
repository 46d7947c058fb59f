-- How far a search for a component has come: the names that it left, and those that it took and
-- hasn't looked at.
-- Source: the search of a graph, as in any textbook on algorithms.
use Rattle.std.specs.Prelude.{◌≡◌, ℕ}
use Rattle.md_graph.specs.Sets.{NameSet, Has, Lacks, Within}
use Rattle.md_modules.specs.Components.{IsClosed}

-- the component of x in the graph on s (`joined` is false) or in its complement (`joined` is true)
-- holds all names of s but those left, and no name that was looked at sees one of those
pub record IsReaching {C : Type 0} (e : ℕ → ℕ → C) (s : NameSet) (joined : C) (x : ℕ)
    (left todo : NameSet) : Type 0 where
  pub start : Has s x × Lacks left x
  pub inside : Within left s
  pub taken : (y : ℕ) → Has todo y → Has s y × Lacks left y
  pub least : (part : NameSet) → IsClosed e s part joined → Has part x → (y : ℕ) → Has s y →
      Lacks left y → Has part y
  pub looked : (w : ℕ) → Has s w → Lacks left w → Lacks todo w → (y : ℕ) → Has left y →
      e w y ≡ joined
