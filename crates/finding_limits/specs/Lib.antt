pub mod Quantities
pub mod Tallied
