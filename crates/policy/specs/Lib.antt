pub mod Levels
pub mod Numbers
pub mod Policies
pub mod PolicyLaws
pub mod Sources
pub mod Generators
pub mod Recordings
pub mod Any
