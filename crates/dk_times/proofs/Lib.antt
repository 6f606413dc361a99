pub mod Places
pub mod Jobs
pub mod Within
