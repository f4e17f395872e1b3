pub mod Refusals
pub mod Tables
pub mod Scans
pub mod Promises
