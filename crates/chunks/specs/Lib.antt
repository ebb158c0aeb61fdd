pub mod Numbers
pub mod Chunks
pub mod Head
