pub mod Names
pub mod Text
pub mod Csv
pub mod Junit
pub mod Escapes
pub mod Unknown
