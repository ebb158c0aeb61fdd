pub mod Process
pub mod Streams
pub mod Finishing
pub mod Working
