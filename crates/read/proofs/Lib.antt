mod Giving
pub mod Stays
