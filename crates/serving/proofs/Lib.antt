mod Room
mod Pacing
pub mod Served
pub mod Fresh
pub mod Claims
pub mod Reading
