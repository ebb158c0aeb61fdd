pub mod Results
pub mod Branches
pub mod Filling
mod Destinations
mod Stretching
