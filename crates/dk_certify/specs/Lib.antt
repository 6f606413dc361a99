pub mod Bounds
pub mod Verdicts
pub mod Laws
pub use Rattle.dk_config.specs.Certification
pub use Rattle.dk_config.specs.Checked
pub use Rattle.dk_config.specs.Configuration
