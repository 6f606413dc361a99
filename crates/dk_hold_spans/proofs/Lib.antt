pub mod Adding
pub mod Covering
pub mod Going
pub mod HoldCounts
pub mod SoFar
