pub mod Lent
pub mod Serving
pub mod Reels
pub mod States
