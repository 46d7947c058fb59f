pub mod Verdicts
pub mod Models
