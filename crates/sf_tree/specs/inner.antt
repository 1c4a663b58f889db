pub mod ChangeAnswers
pub mod Journal
pub mod Known
pub mod Ranking
pub mod Search
