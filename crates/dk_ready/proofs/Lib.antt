pub mod Names
pub mod Numbers
pub mod KernelParts
pub mod Seated
pub mod Moving
pub mod Closing
pub mod Staying
