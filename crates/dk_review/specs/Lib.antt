pub mod Chains
pub mod Files
pub mod Needs
pub mod Reviews
pub mod Runs
pub use Rattle.dk_config.specs.Checked
