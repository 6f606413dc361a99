-- A call that neither makes nor stops a thread: wait, slack, lock and unlock.
pub mod Caller
pub mod Unchanged
pub mod Booking
pub mod Ask
pub mod Wait
pub mod Lock
