pub mod Adding
pub mod Greatest
pub mod Bounds
pub mod Stays
