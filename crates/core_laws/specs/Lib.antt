pub mod Bare
pub mod Places
pub mod Marks
pub mod Waiting
pub mod Shape
pub mod Guards
pub mod Constructors
