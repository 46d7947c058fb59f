mod Limits
pub mod Lists
pub mod Refining
pub mod Showing
mod Rests
mod Starting
mod Counts
mod Touching
mod Inserting
mod Settling
mod Numbering
