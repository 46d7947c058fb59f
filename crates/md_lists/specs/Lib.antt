pub mod Words
pub mod Links
pub mod Spans
pub mod Store
pub mod Kept
