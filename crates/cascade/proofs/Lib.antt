pub mod Ends
mod Walks
