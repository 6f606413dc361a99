pub mod Queues
pub mod Links
pub mod Sound
pub mod Ownership
pub mod Places
pub mod Waits
