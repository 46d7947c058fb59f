mod ArcBits
mod ArcFill
mod ArcLines
pub mod ArcFiles
pub mod ArcReading
