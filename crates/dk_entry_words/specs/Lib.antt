pub mod Works
pub mod Parted
