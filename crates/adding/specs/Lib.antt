pub mod Calls
pub mod Adding
