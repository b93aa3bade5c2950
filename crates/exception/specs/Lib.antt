pub mod Seek
pub mod Raise
