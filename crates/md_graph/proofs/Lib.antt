pub mod Search
pub mod SetLemmas
pub mod BitWords
pub mod Counting
pub mod EachRow
pub mod GraphLemmas
pub mod Limits
pub mod MemberLists
pub mod NameLemmas
pub mod PairLaws
pub mod RowLemmas
pub mod SetLaws
pub mod Transposing
pub mod BlockRows
mod FirstPlace
pub mod LastPlace
pub mod Comparing
pub mod Covering
pub mod Ranges
mod ListedLemmas
pub mod Walks
pub mod LinkedLists
