pub mod ListLemmas
pub mod Lists
pub mod LineLemmas
pub mod FieldLemmas
pub mod NumberLemmas
pub mod PieceLemmas
pub mod FrontLemmas
