pub mod Cycles
pub mod Windows
pub mod OwnUses
pub mod Told
mod Joined
