pub mod Meaning
pub mod Outcomes
pub mod Refusals
pub mod State
