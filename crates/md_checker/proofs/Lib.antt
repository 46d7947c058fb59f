mod Flipping
mod Ordering
mod Leading
mod InStep
mod Heads
mod Listed
mod FitsTree
pub mod OneAnswer
mod Judged
pub mod Spelled
mod Judging
mod Coming
mod Moves
mod Cutting
pub mod Trivial
pub mod FitRows
mod NamedNodes
mod TextWalk
mod Twins
mod ArcTexts
pub mod HeadPairs
pub mod GraphTexts
mod Taking
mod StateTexts
mod Splitting
mod PathLines
mod TreeLines
mod ClassEdits
