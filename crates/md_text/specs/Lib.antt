pub mod Lines
pub mod Fields
pub mod Numbers
pub mod Fronts
pub mod Pieces
pub mod Spelling
pub mod Laws
