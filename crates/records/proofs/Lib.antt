pub mod Kept
pub mod Looked
pub mod Places
