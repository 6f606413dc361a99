pub mod Repeat
pub mod Laws
pub mod Reading
