pub mod Work
pub mod Job
