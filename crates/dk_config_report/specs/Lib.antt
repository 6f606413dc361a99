pub mod Pages
pub mod Allowed
pub mod FaultLines
pub use Rattle.dk_config.specs.Checked
pub use Rattle.dk_outside.specs.Written
pub mod Following
