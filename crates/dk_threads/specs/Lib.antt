pub mod Recount
pub mod Rows
pub mod Stored
pub mod Table
pub mod Laws
