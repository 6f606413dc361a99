pub mod Safe
pub mod ReadBack
pub mod Mutexes
pub mod Texts
pub mod Behind
pub mod SlackCounts
pub mod WindowTexts
