pub mod Rows
pub mod Clock
pub mod Periods
