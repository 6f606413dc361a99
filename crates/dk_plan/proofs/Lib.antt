pub mod Names
pub mod Doubles
pub mod Fractions
pub mod Claims
pub mod Bases
pub mod Rows
pub mod Demands
pub mod Limits
pub mod Accepting
pub mod Unbroken
pub mod LawLemmas
mod WorkedRows
