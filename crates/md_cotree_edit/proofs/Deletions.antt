-- Deletion: a leaf goes, and its node where one child is left.
pub mod MovedChildren
pub mod ReplacedNode
pub mod MergedNodes
pub mod ClosedNode
pub mod PrunedLeaf
pub mod VertexDeletion
