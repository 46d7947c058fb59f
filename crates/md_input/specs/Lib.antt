pub mod Spelling
pub mod Faults
pub mod Graphs
pub mod Rooms
pub mod Inputs
