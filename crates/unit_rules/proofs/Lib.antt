pub mod Shows
pub mod Lists
pub mod Beginnings
pub mod Implementing
