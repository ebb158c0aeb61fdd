pub mod Ceiling
pub mod Positions
pub mod Chunks
pub mod Counts
mod Turns
mod Window
mod Cycles
mod Figures
mod Adjusting
pub mod Halving
pub mod Most
