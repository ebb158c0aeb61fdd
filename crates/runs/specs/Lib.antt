pub mod Ledger
pub mod Run
pub mod Demand
pub mod Balance
pub mod StepOver
pub mod PlayTimes
pub mod CCalls
