pub mod DirectedPlaces
mod DirectedJudged
mod ArcTests
mod ArcViews
