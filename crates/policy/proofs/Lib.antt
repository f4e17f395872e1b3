pub mod Generators
pub mod Recordings
