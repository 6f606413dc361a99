pub mod Found
pub mod Placing
pub mod Reasons
pub mod Telling
pub use Rattle.dk_needs.specs.Reading
pub use Rattle.dk_document_report.specs.Telling as NotToml
