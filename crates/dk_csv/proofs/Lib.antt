pub mod Bare
pub mod PlainRows
pub mod ReadBack
pub mod TableLemmas
