pub mod Names
pub mod Numerals
pub mod Finding
pub mod Splitting
mod FewNames
pub mod TrueReasons
pub mod OneLine
mod Rows
pub mod SimpleApps
