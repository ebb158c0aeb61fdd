pub mod Numbers
pub mod Bits
pub mod Settings
pub mod Write
pub mod Steps
pub mod Scales
pub mod Flush
