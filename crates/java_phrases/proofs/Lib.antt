pub mod Turned
pub mod Token
pub mod Phrases
pub mod Loops
pub mod TypeLaws
pub mod Answered
