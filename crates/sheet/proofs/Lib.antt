mod Judgements
mod Series
mod Verdicts
mod Whole
