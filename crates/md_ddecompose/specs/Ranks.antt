-- The names of a set, ranked by their balance. Only private contracts cite it.
-- Source: Landau, On dominance relations and the structure of animal societies (1953), of the scores of tournaments.
use Rattle.std.specs.Prelude.{◌≡◌, ◌+◌, ◌≤◌, ℕ, Bool, List, All, AllPairs, Contains, map}
use Rattle.md_graph.specs.Sets.{NameSet, Has, HasSome}
use Rattle.md_modules.specs.Segments.{IsSegment}
use Rattle.md_digraph.specs.declared.TheConstants.{DIRECTED_NAMES}
use Rattle.md_digraph.specs.ArcColours.{between, swapped}
use Rattle.md_dtree.specs.DirectedTrees.{arc_forth, SplitsWith, AllArcsTo}
use Rattle.md_dtree.specs.Balance.{arcs_from, arcs_to, ListsMembers}
use Rattle.md_ddecompose.specs.declared.order_parts.Ranked.{Ranked}

-- the lag of a name is a constant and the arcs to it from s, less those from it to s
abbrev pub HasItsLag : (ℕ → ℕ → Bool) → NameSet → Ranked → Type 0
HasItsLag arc s r = r.lag + arcs_from arc s r.name ≡ arcs_to arc s r.name + DIRECTED_NAMES

-- the name of a ranked one
abbrev pub name_of : Ranked → ℕ
name_of r = r.name

-- the list has the members of s, each once and with its lag, those of less lag first
pub record AreRanked (arc : ℕ → ℕ → Bool) (s : NameSet) (rs : List Ranked) : Type 0 where
  pub lists : ListsMembers s (map name_of rs)
  pub lags : All (HasItsLag arc s) rs
  pub rising : AllPairs (λ a b. a.lag ≤ b.lag) rs

-- c is nonempty, lies between two cuts of s with all arcs forth and none back, and isn't cut so itself
pub record IsUncutSegment (arc : ℕ → ℕ → Bool) (s c : NameSet) : Type 0 where
  pub some : HasSome c
  pub segment : IsSegment (between arc) s c arc_forth (swapped arc_forth)
  pub uncut : ¬ (SplitsWith arc c arc_forth)

-- the list has such parts of s, which cover it, in their order
pub record AreUncutSegments (arc : ℕ → ℕ → Bool) (s : NameSet) (cs : List NameSet) : Type 0 where
  pub each : (c : NameSet) → Contains cs c → IsUncutSegment arc s c
  pub cover : (x : ℕ) → Has s x → (c : NameSet) × Contains cs c × Has c x
  pub order : AllPairs (AllArcsTo arc) cs
