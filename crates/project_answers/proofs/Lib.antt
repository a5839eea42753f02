pub mod Judging
pub mod Rowing
pub mod Gathering
pub mod Listing
pub mod Blaming
pub mod Among
pub mod Ways
