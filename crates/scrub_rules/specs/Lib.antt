pub mod Code
pub mod Facts
pub mod Offers
pub mod Place
pub mod Scope
pub mod Target
