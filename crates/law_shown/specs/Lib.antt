pub mod Ends
pub mod Last
pub mod Opaque
