-- A create.
pub mod Call
pub mod Recount
pub mod Needs
pub mod Slot
pub mod Node
