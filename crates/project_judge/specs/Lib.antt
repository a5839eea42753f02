pub mod Units
pub mod Found
pub mod Surfaced
pub mod Judged
pub mod Sizes
pub mod FilesCause
pub mod Project
