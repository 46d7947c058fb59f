pub mod Changes
pub mod Edits
pub mod NodeLists
pub mod Growing
pub mod Substitution
pub mod Walks
