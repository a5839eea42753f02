pub mod Lines
pub mod Gathered
pub mod Promises
pub mod Rows
pub mod Judged
pub mod Answered
pub mod Laws
