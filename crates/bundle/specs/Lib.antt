pub mod Entry
pub mod Path
pub mod Reading
pub mod File
pub mod Bundle
pub mod Paths
pub mod Fault
