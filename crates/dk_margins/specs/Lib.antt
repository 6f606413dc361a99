pub mod Margins
pub mod Limits
