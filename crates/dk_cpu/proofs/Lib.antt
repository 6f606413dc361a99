mod Bytes
mod InSlot
