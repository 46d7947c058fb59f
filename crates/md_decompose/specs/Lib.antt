pub mod Children
pub mod Marks
pub mod Chains
pub mod Turns
pub mod Heads
pub mod Refined
