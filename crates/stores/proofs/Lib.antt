pub mod Journal
pub mod Written
