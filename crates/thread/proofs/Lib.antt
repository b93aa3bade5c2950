pub mod Bits
pub mod Moving
pub mod Pairs
