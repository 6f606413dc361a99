pub mod LedgerSizes
pub mod RunReadable
