pub mod Line
pub mod Writer
