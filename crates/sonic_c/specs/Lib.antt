pub mod Answers
pub mod Waves
