pub mod Recount
pub mod Rows
pub mod Table
pub mod Laws
pub mod Front
pub mod Marks
