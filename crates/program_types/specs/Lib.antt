pub mod Types
pub mod Numbering
pub mod Codes
pub mod Laws
