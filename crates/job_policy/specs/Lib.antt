pub mod Policy
pub mod Slack
