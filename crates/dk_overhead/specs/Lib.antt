pub mod Recount
pub mod Laws
