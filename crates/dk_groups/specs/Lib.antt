pub mod Groups
pub mod Cutting
pub mod Writing
pub mod Below
