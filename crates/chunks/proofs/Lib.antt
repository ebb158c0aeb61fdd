mod Laying
pub mod Bounds
pub mod Reading
