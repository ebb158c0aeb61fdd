pub mod WeightedMean
pub mod Crossfading
pub mod Figures
