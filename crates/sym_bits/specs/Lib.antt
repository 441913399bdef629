pub mod Integers
pub mod Columns
pub mod Calls
pub mod Gates
pub mod Shifting
pub mod Dividing
