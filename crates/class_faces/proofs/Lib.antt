pub mod Assigns
pub mod Counting
pub mod KeyLaws
