pub mod Front
pub mod Promises
pub mod Held
pub mod Ways
pub mod Rows
pub mod LockFindings
