pub mod Answered
pub mod Copied
pub mod Raised
pub mod Tested
