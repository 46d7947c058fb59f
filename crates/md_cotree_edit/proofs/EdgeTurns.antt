-- Edges: two leaves that are joined or parted, and the path where they stand further apart.
pub mod OnlyChild
pub mod JoinedTrees
pub mod LiftedTrees
pub mod LiftedLeaves
pub mod MeetingNode
pub mod FarApart
pub mod ApartByParents
pub mod EdgeEdit
