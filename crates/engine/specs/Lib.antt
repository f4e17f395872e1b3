pub mod Picks
pub mod Steps
pub mod Calls
pub mod Engines
