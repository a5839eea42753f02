pub mod Keys
pub mod Parameters
pub mod Told
pub mod Back
pub mod Single
