pub mod Inputs
pub mod Outputs
pub mod OneWord
pub mod Files
