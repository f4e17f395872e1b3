mod Bits
mod Members
