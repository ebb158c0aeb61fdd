pub mod Taking
pub mod Filling
