pub mod Held
pub mod Moving
