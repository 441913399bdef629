pub mod Begins
pub mod Escaped
pub mod Steps
pub mod Cons
