pub mod Names
pub mod FollowLemmas
pub mod FileReads
pub mod ProgramReads
pub mod Asked
