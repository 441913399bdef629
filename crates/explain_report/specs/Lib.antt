pub mod Bases
pub mod Put
pub mod Said
pub mod Shown
pub mod Words
