pub mod Turns
pub mod Moves
pub mod Doing
pub mod Laps
pub mod Fitting
pub mod Phases
pub mod Parts
pub mod Room
pub mod Clock
pub mod Times
pub mod InTurn
pub mod Whole
pub mod Faultless
pub mod Said
pub mod Joined
pub mod UsedJobs
pub mod Timed
pub mod TimedTurns
mod Witness
mod WitnessJobs
