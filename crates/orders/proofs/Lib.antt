pub mod Checks
pub mod Pieces
pub mod Examples
