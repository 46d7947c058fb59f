mod Across
mod TwoPairs
mod NoPairs
mod Leasts
mod Witnesses
pub mod BarLaw
mod Children
mod Tested
mod Crossings
mod InnerRows
