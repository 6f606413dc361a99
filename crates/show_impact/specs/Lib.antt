pub mod Loads
pub mod Impacts
pub mod Evidence
pub mod Told
pub mod Forms
pub mod ImpactText
pub mod Touching
