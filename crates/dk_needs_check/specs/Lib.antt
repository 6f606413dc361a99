pub mod Bounds
pub mod Meaning
pub mod Rows
pub mod Unknown
