pub mod Folds
mod Leasts
mod StepCases
pub mod Going
pub mod Exacts
