pub mod Climbing
pub mod RegionsUnder
pub mod Walks
pub mod Front
