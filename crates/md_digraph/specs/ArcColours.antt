-- The colours of the ordered pairs of names of a directed graph: whether an arc runs there, and
-- whether one runs back. With them the definitions of modules and components speak of directed
-- graphs: a name outside a module has arcs to all of its names or to none, and arcs from all or
-- from none.
-- Source: Ehrenfeucht and Rozenberg, Theory of 2-structures.
use Rattle.std.specs.Prelude.{ℕ, Bool, true, false}

-- an arc there, and an arc back
abbrev pub ArcColour : Type 0
ArcColour = Bool × Bool

-- the arcs between u and v
abbrev pub between : (ℕ → ℕ → Bool) → ℕ → ℕ → ArcColour
between arc u v = (arc u v, arc v u)

-- the same arcs seen from the other end
abbrev pub swapped : ArcColour → ArcColour
swapped c = (c.1, c.0)

-- no arc: a split of this colour is parallel
abbrev pub no_arc : ArcColour
no_arc = (false, false)

-- both arcs: a split of this colour is series
abbrev pub both_arcs : ArcColour
both_arcs = (true, true)
