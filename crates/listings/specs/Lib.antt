-- What the listing of a run is.
pub mod Listed
pub mod Text
