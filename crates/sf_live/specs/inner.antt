pub mod Resuming
pub mod Rounds
pub mod Running
pub mod Threads
