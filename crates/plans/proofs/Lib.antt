pub mod Planning
pub mod Sizes
pub mod Lengths
