pub mod Calling
pub mod Histories
pub mod Outcomes
pub mod Passes
pub mod Views
pub mod inner
