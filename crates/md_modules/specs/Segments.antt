-- Segments of a set of names: what lies between two cuts, where all pairs across a cut have one
-- colour. In a graph these are the closed parts, and the least ones are the components; in a linear
-- order they are the intervals.
-- Source: Ehrenfeucht and Rozenberg, Theory of 2-structures.
use Rattle.std.specs.Prelude.{◌≡◌, ℕ}
use Rattle.std.specs.FinSet.{intersection}
use Rattle.md_graph.specs.Sets.{NameSet, Has, Within}
use Rattle.md_modules.specs.Components.{IsClosed}

-- c is the common part of a first part of s, whose pairs with the rest have the colour v, and of a
-- last part of s, whose pairs with the rest have the colour w (for w take the reverse of v)
pub record IsSegment {C : Type 0} (e : ℕ → ℕ → C) (s c : NameSet) (v w : C) : Type 0 where
  pub first : NameSet
  pub last : NameSet
  pub initial : IsClosed e s first v
  pub final : IsClosed e s last w
  pub is : c ≡ intersection first last

-- c is the least segment that holds x
pub record IsLeastSegment {C : Type 0} (e : ℕ → ℕ → C) (s : NameSet) (x : ℕ) (c : NameSet) (v w : C)
    : Type 0 where
  pub holds : Has c x
  pub segment : IsSegment e s c v w
  pub least : (a : NameSet) → IsSegment e s a v w → Has a x → Within c a
