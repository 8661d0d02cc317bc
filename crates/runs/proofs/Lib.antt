pub mod Filled
pub mod Finished
pub mod Fitted
pub mod Fronts
pub mod Stepped
pub mod WellOpened
