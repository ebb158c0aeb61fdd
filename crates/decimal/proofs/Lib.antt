mod Reading
mod Figures
