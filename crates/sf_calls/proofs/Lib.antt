pub mod Histories
pub mod Keeps
pub mod CallSteps
