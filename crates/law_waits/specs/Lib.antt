pub mod Leaving
pub mod PassedOver
