pub mod Blocks
mod FramesRead
pub mod Going
pub mod Serving
