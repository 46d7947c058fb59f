pub mod DirectedReports
pub mod DirectedLineTexts
pub mod DueDigraphs
pub mod DirectedLaws
pub mod DirectedFaults
pub mod DirectedViews
