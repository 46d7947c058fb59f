pub mod Partitions
pub mod Slots
pub mod Kept
