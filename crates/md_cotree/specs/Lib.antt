pub mod Laws
pub mod PlaceTrees
pub mod Forests
pub mod Climbs
pub mod Orders
pub mod Entries
pub mod Cotrees
pub mod CotreeLaws
