pub mod Outlines
pub mod HeadPairs
pub mod NodeRows
pub mod BegunNodes
pub mod OutlineParts
