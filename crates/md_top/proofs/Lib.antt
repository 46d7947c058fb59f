pub mod Pieces
mod LinesBy
mod Lines
mod Keeping
pub mod ItemLoops
mod ToldLines
pub mod Outputs
mod Alike
mod Beginnings
mod OneOutput
mod RequestLemmas
pub mod Loads
pub mod EndsLemmas
pub mod Fronts
pub mod FromCographs
pub mod Runs
mod Flushed
