pub mod Chosen
pub mod Lines
pub mod Spaces
