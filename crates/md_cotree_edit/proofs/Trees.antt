-- Trees over places: what is counted in them, the lists that keep them, and what one call of the lists makes of them.
pub mod LocalCounts
pub mod SameRows
pub mod KeptTrees
pub mod ListCalls
pub mod FreePlaces
pub mod AdoptedTrees
pub mod CountsAtNode
pub mod LeafFrames
pub mod TurnedPairs
pub mod AdjacencyByCounts
pub mod NameFork
pub mod KeptNames
pub mod GraphWithoutName
pub mod EditedCotree
