pub mod Finding
pub mod Steps
pub mod Changes
pub mod Spans
pub mod Report
