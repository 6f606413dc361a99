pub mod Greatest
pub mod Taken
