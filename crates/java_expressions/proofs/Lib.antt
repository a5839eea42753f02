pub mod Sound
pub mod Heights
pub mod Complete
pub mod Chains
pub mod ReaderLemmas
