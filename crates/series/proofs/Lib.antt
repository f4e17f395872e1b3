mod Firsts
mod Means
mod Histories
mod Looks
mod Performs
mod Ties
mod Rests
