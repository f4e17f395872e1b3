pub mod Heads
pub mod Reads
pub mod Grammar
pub mod FirstFaults
pub mod Writes
pub mod RoundTrips
