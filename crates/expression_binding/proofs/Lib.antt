pub mod Lists
pub mod Shapes
pub mod Arguments
pub mod Walk
