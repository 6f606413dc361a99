pub mod Runs
pub mod Recorded
pub mod LedgerLines
pub mod Planner
pub mod Output
pub mod Promises
pub mod Work
