pub mod Room
pub mod Answers
pub mod Joining
pub mod Adding
pub mod Accepting
