pub mod Words
mod Steps
mod Clauses
pub mod Legal
mod Firsts
