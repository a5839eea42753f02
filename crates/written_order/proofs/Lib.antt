pub mod Promises
pub mod Codes
