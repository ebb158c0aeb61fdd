pub mod TableRule
pub mod Lobes
pub mod Coefficient
pub mod Tabulated
pub mod Taps
pub mod Channels
pub mod Weights
mod Figures
