-- The members of a set that a vertex is adjacent to, or isn't.
-- Source: neighbours and other vertices, as in any textbook on graphs.
use Rattle.std.specs.Prelude.{ℕ, Bool, true, false}
use Rattle.std.specs.FinSet.{intersection, difference}
use Rattle.md_graph.specs.PlainGraph.{PlainGraph, neighbours}
use Rattle.md_graph.specs.Sets.{NameSet}

-- the members of `among` that are adjacent to w (the value is true), or that aren't (it is false)
abbrev pub seen_as : PlainGraph → ℕ → Bool → NameSet → NameSet
seen_as g w true among = intersection among (neighbours g w)
seen_as g w false among = difference among (neighbours g w)
