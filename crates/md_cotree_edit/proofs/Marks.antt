-- Marks: what lists tell of the names that are marked.
pub mod OnlyMarksDiffer
pub mod SameMarks
pub mod MarksAroundHole
pub mod MarkedBelow
pub mod MarkedLeaf
pub mod MarkedAll
pub mod FewMarked
