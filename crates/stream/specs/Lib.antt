pub mod Balance
pub mod State
pub mod Stream
pub mod Refusals
pub mod Settings
pub mod Order
