pub mod Impact
pub mod Laws
pub mod Changes
pub mod Greater
pub mod GreaterLaws
pub mod Enough
pub mod Unreached
