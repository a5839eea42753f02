pub mod Gathering
pub mod Holding
pub mod Lawful
pub mod Locking
pub mod Looking
