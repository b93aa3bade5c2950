pub mod Flow
pub mod Cases
pub mod Tables
pub mod Loops
pub mod Signed
pub mod Counts
pub mod Within
pub mod Named
