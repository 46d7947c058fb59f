pub mod ArcLine
pub mod ArcFile
pub mod FirstDigraph
pub mod DigraphRooms
pub mod ArcFilled
pub mod Laws
