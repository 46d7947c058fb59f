pub mod Numbers
pub mod Sure
pub mod Reading
pub mod Writing
