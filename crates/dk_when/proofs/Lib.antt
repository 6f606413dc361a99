pub mod Running
pub mod Rising
pub mod Soonest
