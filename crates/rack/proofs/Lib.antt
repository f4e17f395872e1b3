mod Runs
mod Values
mod Answers
