pub mod Given
pub mod Marks
