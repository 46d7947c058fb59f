pub mod Lists
pub mod Forcing
pub mod Sides
pub mod ArcSet
pub mod Classes
pub mod Turns
