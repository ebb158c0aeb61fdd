pub mod Ranges
pub mod Record
pub mod Halves
