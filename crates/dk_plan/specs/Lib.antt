pub mod Base
pub mod Budget
pub mod Levels
