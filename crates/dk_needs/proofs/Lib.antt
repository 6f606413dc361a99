pub mod Lists
pub mod Digits
pub mod Fit
