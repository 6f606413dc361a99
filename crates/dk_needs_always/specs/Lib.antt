pub mod Asking
pub mod Telling
pub mod Deciding
pub mod Sound
pub mod Lending
