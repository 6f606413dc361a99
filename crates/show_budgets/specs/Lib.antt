pub mod Least
pub mod Together
pub mod Strangers
pub mod Wrong
pub mod Report
