pub mod Model
pub mod Standing
pub mod Searches
pub mod Theorems
pub mod Examples
