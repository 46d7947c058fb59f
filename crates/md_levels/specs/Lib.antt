pub mod Levels
pub mod Depths
