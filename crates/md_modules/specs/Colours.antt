-- Colourings of the ordered pairs of names. A graph has two colours, adjacent and not, and each is
-- its own reverse; a directed graph has four, the arcs there and back.
-- Source: Ehrenfeucht and Rozenberg, Theory of 2-structures.
use Rattle.std.specs.Prelude.{◌≡◌, ◌≢◌, ◌⊎◌, ℕ}

-- each ordered pair of names has a colour, and the pair the other way round has the reverse of it
pub record IsColouring {C : Type 0} (reverse : C → C) (e : ℕ → ℕ → C) : Type 0 where
  pub reversed : (a b : ℕ) → e b a ≡ reverse (e a b)

-- of each two colours it is told whether they are equal
abbrev pub AreTold : Type 0 → Type 0
AreTold C = (a b : C) → (a ≡ b) ⊎ (a ≢ b)
