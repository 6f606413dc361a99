pub mod Leaves
pub mod Headline
pub mod Causes
pub mod Complete
