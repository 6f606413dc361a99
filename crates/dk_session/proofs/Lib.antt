pub mod Names
pub mod Statuses
pub mod Outcomes
pub mod Leaving
pub mod Told
pub mod Room
