mod Walking
mod Sampling
mod Writing
pub mod Back
