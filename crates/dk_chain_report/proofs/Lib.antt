mod Windows
mod Undone
mod Numbers
