pub mod Chained
pub mod Faults
pub mod Needed
pub mod Ranges
pub mod Verdicts
