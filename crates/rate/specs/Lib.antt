pub mod Halving
pub mod Tail
pub mod Conversion
pub mod Adjusting
pub mod Phases
