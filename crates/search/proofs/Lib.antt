pub mod Candidates
pub mod Extremes
pub mod Downward
pub mod SearchRule
