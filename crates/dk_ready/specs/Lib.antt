pub mod Roster
pub mod First
pub mod Start
pub mod Recount
pub mod Laws
