pub mod Names
pub mod Seen
pub mod Whose
pub mod Budgets
pub mod Spent
pub mod Room
pub mod Across
pub mod Greater
pub mod Wants
pub mod Unreached
pub mod Joined
pub mod Windows
pub mod Told
mod Premises
mod GreaterPremises
mod Witness
mod GreaterWitness
pub mod Listing
