pub mod Keys
pub mod Fit
pub mod Gathered
