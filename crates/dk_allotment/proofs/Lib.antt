pub mod Alone
pub mod Sums
pub mod Planned
pub mod Enough
pub mod Together
