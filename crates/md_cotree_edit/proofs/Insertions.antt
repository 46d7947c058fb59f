-- Relinking: a new leaf below the lowest mixed node, or the path where it can't be taken in.
pub mod LeafEdges
pub mod MarkedNames
pub mod FullChildren
pub mod Relinked
pub mod NewLeaf
pub mod LowestLeaf
pub mod PathByVertex
pub mod TakenGraph
pub mod NewVertex
