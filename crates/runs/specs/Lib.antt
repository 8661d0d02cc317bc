pub mod Fitting
pub mod Loading
pub mod Running
