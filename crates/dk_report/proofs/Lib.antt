pub mod CountLemmas
pub mod ReportLemmas
pub mod SumLemmas
mod StretchLemmas
