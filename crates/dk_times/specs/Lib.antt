pub mod Forms
pub mod Records
pub mod Rows
pub mod Table
pub mod Whole
pub mod Laws
