-- The opening of the next tick: who is due ends and starts, and windows begin.
pub mod Due
pub mod Shares
pub mod Cells
pub mod Nodes
pub mod NobodyDue
pub mod Rosters
pub mod Moved
pub mod Seats
pub mod Recount
pub mod RowByRow
pub mod Sizes
pub mod Clocks
