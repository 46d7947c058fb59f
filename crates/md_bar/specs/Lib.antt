pub mod ClassLines
pub mod Reading
