pub mod Found
pub mod Overruns
pub mod Marks
pub mod Laws
