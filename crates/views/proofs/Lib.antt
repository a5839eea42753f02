pub mod Filing
pub mod Filling
pub mod Finding
pub mod Gathering
pub mod Keying
pub mod Regioning
pub mod Showing
