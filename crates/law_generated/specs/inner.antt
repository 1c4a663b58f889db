pub mod Painting
pub mod Passes
pub mod Plain
pub mod Ready
pub mod Sizes
