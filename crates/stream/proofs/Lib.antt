pub mod Testing
pub mod AreaTests
pub mod Passing
pub mod Needed
pub mod Booking
pub mod InOrder
pub mod Streams
pub mod Stays
