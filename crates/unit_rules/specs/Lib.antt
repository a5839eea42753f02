pub mod Shown
pub mod Annotations
pub mod Given
pub mod Faults
pub mod Consulted
pub mod Implements
pub mod Assumed
pub mod Headers
