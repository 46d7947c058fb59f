pub mod DirectedSpelling
pub mod DirectedTrees
pub mod DirectedTexts
pub mod DirectedFits
pub mod Balance
pub mod Laws
