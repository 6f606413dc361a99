pub mod SumLemmas
pub mod WorkLemmas
pub mod VerdictLemmas
pub mod ReachLemmas
