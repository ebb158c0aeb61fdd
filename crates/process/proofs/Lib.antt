pub mod States
pub mod Taken
pub mod Joining
mod Finishing
mod Working
pub mod Claims
pub mod Telling
pub mod Amounts
