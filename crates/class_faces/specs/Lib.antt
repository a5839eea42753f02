pub mod Assigned
pub mod Faces
pub mod Keys
pub mod Same
