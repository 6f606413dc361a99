pub mod Sums
pub mod RowsMet
pub mod Said
