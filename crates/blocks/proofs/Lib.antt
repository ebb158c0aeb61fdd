pub mod Parts
mod StreamAfter
mod Serving
