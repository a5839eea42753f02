pub mod Promises
pub mod Vouches
pub mod Findings
