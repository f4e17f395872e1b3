pub mod Weights
pub mod Rows
pub mod Sound
