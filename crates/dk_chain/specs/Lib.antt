pub mod InOrder
pub mod Rounding
pub mod Chain
pub mod Pace
pub mod Age
pub mod Sooner
pub mod NotBefore
pub mod Least
