pub mod Check
pub mod Endings
pub mod Intake
pub mod IntakeErrors
pub mod Output
pub mod Status
pub mod Words
