pub mod Draws
pub mod Templates
pub mod Generated
pub mod Runnable
