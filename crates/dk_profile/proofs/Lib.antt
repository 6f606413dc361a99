pub mod Digits
pub mod Fitting
