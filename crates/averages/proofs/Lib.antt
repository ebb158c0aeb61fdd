pub mod Averaging
