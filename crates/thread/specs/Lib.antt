pub mod Move
pub mod Pair
