pub mod Frames
pub mod Named
pub mod Terms
pub mod Statements
pub mod Declared
pub mod Units
pub mod Standing
pub mod Laws
