pub mod Numbers
mod Steps
pub mod Tokens
mod Mets
