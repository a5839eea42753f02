pub mod UnitFacts
pub mod Made
pub mod Names
pub mod Implemented
pub mod Aboves
pub mod Asked
pub mod Alike
pub mod Front
