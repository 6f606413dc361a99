pub mod Answer
pub mod Number
pub mod Reads
pub mod Jobs
pub mod Follows
pub mod Inputs
