-- Lemmas on the run file, for the readers here and for what runs a file.
pub mod SoundHeader
pub mod Values
pub mod Walk
