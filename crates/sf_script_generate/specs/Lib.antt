pub mod Generator
pub mod Lines
