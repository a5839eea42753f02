pub mod Front
pub mod Sorting
pub mod Counting
