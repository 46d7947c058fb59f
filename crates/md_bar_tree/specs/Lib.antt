pub mod Bars
pub mod Inner
pub mod Laws
pub mod Following
pub mod Finding
pub mod Edges
pub mod Crossing
pub mod InnerRows
