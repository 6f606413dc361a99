pub mod Adding
mod Cuts
mod Named
