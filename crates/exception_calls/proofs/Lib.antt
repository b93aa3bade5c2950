pub mod Lending
pub mod Levels
