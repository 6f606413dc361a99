pub mod Warnings
pub mod Fitting
pub mod Found
pub mod Ceilings
pub mod Told
