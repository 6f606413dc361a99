pub mod Moving
pub mod Dividing
