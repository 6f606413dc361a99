pub mod Adding
pub mod Cuts
pub mod Reading
