pub mod Models
pub mod Facts
pub mod Moves
pub mod Asks
pub mod Truths
pub mod Exacts
