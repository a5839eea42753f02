pub mod Codes
pub mod Stacks
pub mod Filled
pub mod Stepped
pub mod Held
