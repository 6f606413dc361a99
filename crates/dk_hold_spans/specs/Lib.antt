pub mod HoldLists
pub mod Laws
