pub mod Spelling
pub mod Modifiers
pub mod Annotation
pub mod Reading
pub mod Answers
pub mod Laws
pub mod Headings
pub mod HeadingReading
