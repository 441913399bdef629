pub mod Causes
pub mod Theorems
pub mod Decisions
pub mod Steps
pub mod Narrowing
pub mod Parameters
pub mod Books
pub mod Rooms
