pub mod Lists
pub mod LimitMore
pub mod Refused
pub mod RepeatMore
pub mod Gathered
pub mod OneProject
