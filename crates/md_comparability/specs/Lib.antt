pub mod Chains
pub mod Orientations
pub mod Orders
pub mod Laws
pub mod Walking
pub mod Listed
