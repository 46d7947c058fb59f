pub mod PlainDigraph
pub mod ArcRows
pub mod ArcColours
pub mod ArcsSeen
pub mod Laws
pub mod Cuts
