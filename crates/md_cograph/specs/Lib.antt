pub mod EditCosts
