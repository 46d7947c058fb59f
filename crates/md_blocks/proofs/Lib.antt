pub mod BlockLemmas
pub mod Refusals
