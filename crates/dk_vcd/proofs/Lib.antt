pub mod Passing
pub mod Dense
pub mod Lines
pub mod ReadBack
pub mod Told
