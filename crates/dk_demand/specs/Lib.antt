pub mod Levels
pub mod Counters
pub mod Cells
pub mod Waiting
pub mod Recount
pub mod Moves
pub mod Laws
