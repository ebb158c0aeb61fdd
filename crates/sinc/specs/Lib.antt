pub mod SincTable
pub mod Sinc
pub mod Lobes
pub mod Weights
