pub mod Loans
pub mod Book
pub mod Sound
pub mod Shares
pub mod Calls
pub mod Recount
pub mod Laws
