pub mod Alone
pub mod Fold
pub mod Moving
