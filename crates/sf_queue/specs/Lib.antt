pub mod Leases
pub mod Orders
pub mod Lending
