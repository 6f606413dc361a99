pub mod Counts
pub mod FailingDepot
pub mod FailingSink
pub mod Files
pub mod MemDepot
pub mod MemSink
pub mod Views
pub mod Written
