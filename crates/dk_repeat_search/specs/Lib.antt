pub mod States
pub mod Searching
pub mod Counting
pub mod Repeats
pub mod Always
