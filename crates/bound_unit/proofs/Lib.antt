pub mod NameSet
pub mod Meeting
pub mod Params
pub mod Putting
