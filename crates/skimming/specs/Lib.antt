pub mod Skimming
