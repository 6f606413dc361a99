pub mod Signals
pub mod Words
pub mod Holders
pub mod Changes
pub mod Dumps
pub mod Laws
