pub mod Tables
pub mod Owners
