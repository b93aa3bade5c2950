pub mod Choice
pub mod Guarded
pub mod Lists
