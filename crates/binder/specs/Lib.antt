pub mod Trees
pub mod Params
pub mod Members
pub mod Bound
pub mod Units
