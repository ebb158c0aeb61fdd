pub mod Wave
pub mod Back
