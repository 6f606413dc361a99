pub mod Rest
pub mod Lent
pub mod Long
pub mod Allotted
pub mod Soon
pub mod Own
