pub mod Alists
pub mod Latest
pub mod Longer
pub mod Makes
pub mod Tables
pub mod Values
