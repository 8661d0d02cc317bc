pub mod Found
pub mod Summed
