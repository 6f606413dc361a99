-- A tick that is charged.
pub mod Recount
pub mod ByChoice
pub mod Threads
pub mod Unclaimed
pub mod Labels
