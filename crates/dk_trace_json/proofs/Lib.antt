pub mod Plain
pub mod Pieces
pub mod Reading
pub mod Shapes
pub mod Words
pub mod Objects
pub mod Overruns
pub mod Whole
