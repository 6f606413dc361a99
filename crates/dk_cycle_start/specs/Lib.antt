pub mod Alike
pub mod Passes
