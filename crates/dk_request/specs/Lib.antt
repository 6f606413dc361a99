pub mod Synopsis
pub mod Commands
pub mod SimpleCommand
pub mod Meaning
