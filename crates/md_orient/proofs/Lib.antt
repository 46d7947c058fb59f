pub mod Answering
pub mod Modelling
