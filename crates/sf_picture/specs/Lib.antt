pub mod Pixels
pub mod Solid
pub mod inner
