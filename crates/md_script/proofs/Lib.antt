pub mod NameListLemmas
pub mod ItemLemmas
pub mod LineLemmas
pub mod ChangeLemmas
pub mod EditLemmas
pub mod TokenLemmas
pub mod DraftLemmas
pub mod FileLemmas
pub mod BackLemmas
pub mod KeptRows
pub mod HistoryLemmas
pub mod GroupLemmas
mod BoundLemmas
