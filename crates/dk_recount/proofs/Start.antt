-- The tables at tick 0.
pub mod Recount
pub mod Building
