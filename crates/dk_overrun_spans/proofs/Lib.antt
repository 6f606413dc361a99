pub mod Growing
pub mod Searching
pub mod LastTicks
pub mod Counting
pub mod Rows
pub mod Paid
