pub mod Calls
pub mod Fault
pub mod Key
pub mod Limit
