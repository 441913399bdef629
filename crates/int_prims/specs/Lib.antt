pub mod Gives
pub mod Integers
