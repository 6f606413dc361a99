pub mod Cycles
pub mod OwnUses
pub mod Lines
pub mod Found
