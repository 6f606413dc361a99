pub mod Lists
pub mod Told
pub mod Events
pub mod Windows
pub mod Over
pub mod Within
