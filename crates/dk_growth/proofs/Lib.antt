pub mod Rows
pub mod Needs
pub mod Unbroken
pub mod Searching
pub mod Limiting
mod WorkedRows
