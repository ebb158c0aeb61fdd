mod KeptParts
mod Work
mod Tracking
mod Accepting
mod Steps
mod Simulation
mod Passage
mod Quiet
mod Entries
mod Counting
mod Accounts
pub mod Claims
pub mod Balanced
pub mod SteppedOver
pub mod PlayTimes
pub mod CCalls
mod Example
mod ExampleParts
mod ExampleBalance
mod ExampleStall
mod ExampleStepOver
mod ExampleC
mod ExampleTail
mod ExampleTies
