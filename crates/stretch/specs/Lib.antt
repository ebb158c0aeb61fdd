pub mod Steps
pub mod Tally
pub mod Speed
