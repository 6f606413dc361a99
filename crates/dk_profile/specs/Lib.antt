pub mod Words
pub mod Reading
pub mod Steps
pub mod Faults
pub mod FaultText
