-- The members of a set that have other arcs with one name than with another, or than a colour has.
-- Only private contracts cite it.
-- Source: rows of successors and of predecessors, as in any textbook on directed graphs.
use Rattle.std.specs.Prelude.{ℕ, Bool, true, false, not}
use Rattle.std.specs.FinSet.{union, intersection, difference}
use Rattle.md_graph.specs.Sets.{NameSet}
use Rattle.md_graph.specs.NameSet.{symmetric_difference}
use Rattle.md_digraph.specs.PlainDigraph.{PlainDigraph, has_arc_to, successors, predecessors}

-- the members of `among` that v and w have different arcs with
abbrev pub told_apart : PlainDigraph → ℕ → ℕ → NameSet → NameSet
told_apart g v w among =
    intersection among (union
    (symmetric_difference (successors g v) (successors g w))
    (symmetric_difference (predecessors g v) (predecessors g w)))

-- the members of `among` that w has an arc with (`both` is false), or that w lacks an arc with,
-- there or back (`both` is true)
abbrev pub with_other_arcs : PlainDigraph → ℕ → Bool → NameSet → NameSet
with_other_arcs g w false among = intersection among (union (successors g w) (predecessors g w))
with_other_arcs g w true among = difference among (intersection (successors g w) (predecessors g w))

-- the members of `among` that the row has (the value is true), or that it lacks (it is false)
abbrev pub valued : NameSet → Bool → NameSet → NameSet
valued row true among = intersection among row
valued row false among = difference among row

-- the members of `among` with which b has other arcs than with v
abbrev pub told_from : PlainDigraph → ℕ → ℕ → NameSet → NameSet
told_from g b v among =
    union
    (valued (successors g b) (not (has_arc_to g b v)) among)
    (valued (predecessors g b) (not (has_arc_to g v b)) among)
