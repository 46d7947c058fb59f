pub mod DirectedLimits
pub mod DigraphLemmas
mod ArcRowLemmas
pub mod ArcTurns
pub mod BackTurns
mod ArcLaws
mod RowLemmas
