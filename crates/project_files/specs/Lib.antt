pub mod Limits
pub mod Order
pub mod Trees
pub mod Repeats
pub mod Project
pub mod Kept
