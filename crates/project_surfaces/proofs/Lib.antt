pub mod Zipped
pub mod Named
pub mod Absent
pub mod More
