pub mod Texts
pub mod Sheets
pub mod RefusedLines
pub mod Promises
