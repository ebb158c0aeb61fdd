pub mod Ties
pub mod Search
pub mod Outward
