pub mod Types
pub mod Notes
pub mod Scopes
pub mod Places
pub mod Named
