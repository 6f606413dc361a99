pub mod More
pub mod Needs
pub mod Pages
pub mod Runs
