pub mod Names
pub mod Pieces
pub mod Shown
pub mod Cells
pub mod Lines
