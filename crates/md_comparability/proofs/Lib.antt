pub mod Reached
pub mod Triangles
mod ArcLists
pub mod Deciding
pub mod Classes
pub mod Least
pub mod Chosen
pub mod Cutting
pub mod Alternative
pub mod OneList
pub mod WalkLemmas
pub mod Near
pub mod Sorted
pub mod OrderLaws
pub mod Placed
pub mod Listing
pub mod Shortest
