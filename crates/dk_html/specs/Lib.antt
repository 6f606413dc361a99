pub mod Escaping
pub mod Outputs
pub mod Checksums
pub mod Pieces
pub mod Tables
pub mod Parts
