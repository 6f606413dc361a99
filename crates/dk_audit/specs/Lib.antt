pub mod Findings
pub mod Booking
pub mod Lines
