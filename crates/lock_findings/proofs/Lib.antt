pub mod Front
pub mod Arguments
pub mod Pushed
pub mod Places
