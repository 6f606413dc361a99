pub mod Buffer
pub mod FileDepot
pub mod Opener
pub mod OutSink
pub mod Running
pub mod System
pub mod Words
