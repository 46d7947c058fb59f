pub mod HeadPairs
pub mod Heads
pub mod NodeRows
pub mod Writing
pub mod TreeOutlines
pub mod NoPrimeParts
