mod Heads
mod Bodies
mod Accepted
pub mod Worded
mod Comments
mod Spelled
pub mod Accepts
mod FirstFaults
mod Writing
mod Decimals
mod RoundTrip
