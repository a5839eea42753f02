pub mod Apart
pub mod Built
pub mod Climbs
pub mod Faulty
pub mod Numbers
pub mod Rooted
