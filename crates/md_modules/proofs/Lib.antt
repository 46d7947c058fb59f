pub mod Modules
pub mod Strong
pub mod Splits
pub mod Components
pub mod Children
pub mod Paths
pub mod Quotients
pub mod Complement
pub mod Growth
pub mod PathSearch
pub mod BothPaths
pub mod DecidedPaths
pub mod Turns
pub mod ClassLists
pub mod ClassLemmas
mod BlockLemmas
