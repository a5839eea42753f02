pub mod Chains
pub mod Disjoint
pub mod Faults
pub mod Marks
pub mod Names
pub mod Regions
pub mod Tree
