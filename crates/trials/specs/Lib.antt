pub mod Bare
pub mod BareRows
