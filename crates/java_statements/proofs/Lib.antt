pub mod SoundParts
pub mod Sound
pub mod Starts
pub mod CompleteParts
pub mod Complete
pub mod ReaderLemmas
pub mod Turns
