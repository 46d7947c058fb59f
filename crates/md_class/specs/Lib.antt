pub mod ClassAnswers
pub mod ClassOpenings
pub mod ClassSessions
pub mod ItemAnswers
