pub mod Begins
pub mod Process
pub mod Totals
pub mod Counts
