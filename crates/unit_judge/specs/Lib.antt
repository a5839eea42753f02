pub mod Promises
pub mod Judged
