-- Climbing: the marked places are walked over, up to the lowest mixed node.
pub mod WalkedList
pub mod LowestHasNoNote
pub mod NotedChildren
pub mod LowestMixed
pub mod WalkedPlace
