pub mod ArcKinds
pub mod DirectedCanonical
pub mod OneDirected
pub mod BalanceLaws
pub mod FitsDirected
