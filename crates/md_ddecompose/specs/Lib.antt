pub mod Children
pub mod Ranks
pub mod Heads
pub mod Turns
