pub mod Arguments
pub mod Settings
