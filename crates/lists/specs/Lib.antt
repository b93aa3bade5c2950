pub mod Alone
pub mod Above
