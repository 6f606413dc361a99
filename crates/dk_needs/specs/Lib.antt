pub mod Keys
pub mod Ticks
pub mod Fitting
pub mod Wanted
pub mod Shape
pub mod Reading
pub mod Fit
