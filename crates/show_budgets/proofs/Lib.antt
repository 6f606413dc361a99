mod Least
mod OneColumn
mod Joined
