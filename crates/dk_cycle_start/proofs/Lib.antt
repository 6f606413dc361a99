pub mod Names
pub mod Readers
pub mod Threads
pub mod Walking
pub mod AtOnce
