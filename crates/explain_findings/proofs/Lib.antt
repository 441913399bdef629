pub mod Behind
pub mod Founds
