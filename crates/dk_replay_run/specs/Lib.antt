pub mod Jobs
pub mod Profiles
pub mod Laws
