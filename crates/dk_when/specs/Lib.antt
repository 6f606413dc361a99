pub mod Bounds
pub mod Earliest
