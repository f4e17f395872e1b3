pub mod Threshold
pub mod Countdown
