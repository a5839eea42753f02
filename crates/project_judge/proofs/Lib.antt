pub mod UnitSteps
pub mod JudgeSteps
pub mod NamedSurfaces
pub mod PromiseOrder
pub mod OneAnswer
pub mod Counts
pub mod Answering
