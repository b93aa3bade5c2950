pub mod Channel
pub mod Exception
