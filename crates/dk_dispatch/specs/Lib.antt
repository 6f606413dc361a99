pub mod Fields
pub mod Levels
pub mod Sums
pub mod Leading
pub mod Calls
pub mod Questions
pub mod Standing
pub mod Ticks
