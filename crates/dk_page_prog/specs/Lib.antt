pub mod Answers
pub mod Help
pub mod Asking
pub mod Ends
pub mod Numbers
pub mod Repeating
