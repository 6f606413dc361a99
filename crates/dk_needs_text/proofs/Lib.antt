pub mod Plain
pub mod Escapes
