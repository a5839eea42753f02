pub mod Fields
pub mod Header
pub mod Kinds
pub mod Locks
pub mod Regions
