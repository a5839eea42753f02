pub mod Tree
pub mod Phrase
pub mod Parser
pub mod Cursor
pub mod Types
pub mod Texts
pub mod Answers
pub mod Common
