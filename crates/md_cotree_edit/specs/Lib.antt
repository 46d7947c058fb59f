-- How the contracts of this crate speak of trees.
--
-- The code sees places of linked lists: a leaf, a node, a parent. The contracts speak of the tree over places that the lists keep, and the
-- code has no such tree. So each private function that changes the tree around a place has a view: a record of numbers and trees that is
-- the tree as seen from there. A clause says "there is a view that the lists keep" (requires), and "for each view that the lists kept, they
-- now keep that" (ensures). A caller gives its own view, and no view is computed.
--
-- What views hold. `frames` is the way from a node up to the root, innermost first: each node with its other children (Contexts, `plug`
-- puts a tree into it). `series` is the kind of the node, `child`, `first`, `rest` .. are the trees below it by their part in the change. A
-- place stands in the view where the function doesn't have it as a parameter. Beside each XView stand CanX, what the lists have to
-- keep before, and the record of what they keep after.
--
--   edges         BothView     two leaves that are children of one node                                                   Turns
--                 OneView      a leaf, and a leaf that is a child of a child of its node
--                 AdoptView    a node, and two loose trees that come below it
--                 LiftView     a node with what stays of its children, and two loose trees that come below it on one other node
--   marks         MarkView     a tree, its marked names, and a name that is marked too                                    Marks
--   climbing      ClimbView    a tree, and its marked names: what a vertex that comes in is judged by
--                 WalkView     the same, and which places were walked over
--                 LowestView   the same around a node: the lowest mixed one
--   relinking     PutView      a tree in another, and a loose tree that takes its place                                   Relinks
--                 PairView     a loose node, a loose leaf, and a node of a tree
--   deletion      PruneView    a leaf that goes                                                                           Deletions
--                 CloseView    a node of one child that goes
--                 SettleView   a node, and a loose tree that comes below it, or whose children do
--                 MergeView    a node, and a loose one of its kind: they become one
--                 PlaceView    a node without children, and a loose tree that takes its place
--                 MoveView     two nodes of a kind, and the children of the one that move to the other
--                 PassView     the same, and the child that moves next

-- what is counted in trees, and trees around a place
pub mod Counts
pub mod Contexts
-- what each step makes of a tree
pub mod Turns
pub mod Marks
pub mod Relinks
pub mod Deletions
