pub mod Equal
pub mod Kept
