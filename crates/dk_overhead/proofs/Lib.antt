pub mod Recounts
