pub mod GraphFiles
