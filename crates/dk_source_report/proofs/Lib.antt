pub mod Counting
pub mod Plain
