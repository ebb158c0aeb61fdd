pub mod Integers
pub mod Reciprocal
pub mod Tables
pub mod Widening
pub mod Equal
