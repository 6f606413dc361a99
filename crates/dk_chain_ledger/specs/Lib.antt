pub mod Jobs
pub mod Tables
pub mod Reactions
pub mod Laws
pub mod Text
