pub mod Comparing
pub mod Manners
pub mod Meeting
pub mod Showing
