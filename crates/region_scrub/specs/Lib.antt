pub mod Clearing
pub mod Indexes
pub mod Numbers
pub mod Rooting
pub mod Stages
