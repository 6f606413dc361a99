pub mod Alone
pub mod Given
pub mod Planned
pub mod Soon
pub mod Beside
