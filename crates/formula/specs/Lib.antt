pub mod Clauses
pub mod Entries
pub mod Spans
pub mod Made
pub mod Formulas
pub mod Occurrences
pub mod Meaning
