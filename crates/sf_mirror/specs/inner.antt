pub mod Extended
pub mod Marks
