pub mod Spelling
pub mod Parts
pub mod Reads
pub mod Places
pub mod Drafts
pub mod Answers
pub mod Alike
pub mod Reach
