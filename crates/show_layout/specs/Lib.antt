pub mod When
pub mod Margins
pub mod Takes
pub mod Certificate
pub mod Matrix
pub mod Warnings
pub use Rattle.show_rows.specs.Lines
