pub mod State
pub mod Recorder
