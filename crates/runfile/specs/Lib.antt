-- The run file, byte by byte: what its bytes mean and what its faults are.
pub mod Faults
pub mod Bytes
pub mod HeaderFormat
pub mod Tags
pub mod StepFormat
pub mod Readers
pub mod FileFormat
pub mod Walk
