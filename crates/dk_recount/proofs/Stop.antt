-- An exit, a fault or a delete: one child, or a whole process, is stopped.
pub mod Causes
pub mod Child
pub mod ChildRecount
pub mod ProcessRecount
pub mod OneClosed
pub mod ShutTables
pub mod ShutRecount
pub mod Shut
pub mod FamilyRows
pub mod Present
pub mod Needs
pub mod Rows
pub mod Delete
pub mod Running
