pub mod Silent
pub mod Grounds
pub mod Written
pub mod Placed
pub mod Under
pub mod Named
pub mod Bodies
pub mod Members
