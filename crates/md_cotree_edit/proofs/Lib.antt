-- From the ground up: each group stands on those above it.

-- trees over places: what is counted in them, the lists that keep them, and what one call of the lists makes of them
pub mod Trees
-- edges: two leaves that are joined or parted, and the path where they stand further apart
pub mod EdgeTurns
-- marks: what lists tell of the names that are marked
pub mod Marks
-- climbing: the marked places are walked over, up to the lowest mixed node
pub mod Climbs
-- relinking: a new leaf below the lowest mixed node, or the path where it can't be taken in
pub mod Insertions
-- deletion: a leaf goes, and its node where one child is left
pub mod Deletions
