-- what an edit of a cotree needs to know of the graph, and what its answer says
pub mod Changed
-- the outline of the tree of a graph: whether it is a cograph, and what its cotree denotes
pub mod OutlinedCographs
-- an item that is taken back
pub mod GoingBack
