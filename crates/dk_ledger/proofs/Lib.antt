pub mod Names
pub mod NameLemmas
pub mod HeaderLemmas
pub mod AcceptedHeading
pub mod CutLemmas
pub mod OneCut
pub mod WordBytes
pub mod Spelled
pub mod Split
pub mod EntryLists
pub mod OneText
pub mod WordLists
pub mod Heads
pub mod NextItem
pub mod FirstWord
pub mod PrintedLines
pub mod Continuing
pub mod LineCuts
pub mod OneItemMore
pub mod InPlace
pub mod Readings
mod NumberText
mod Drafts
pub mod NextLine
mod Stretching
mod SameEvent
