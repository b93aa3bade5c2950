pub mod Sizes
pub mod Turning
