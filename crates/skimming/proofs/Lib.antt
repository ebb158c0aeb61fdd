pub mod Starting
mod Turning
mod Serving
