pub mod Depths
pub mod LevelLemmas
