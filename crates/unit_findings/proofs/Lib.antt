pub mod Asides
