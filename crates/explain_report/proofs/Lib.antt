pub mod Back
pub mod Integers
pub mod Numbers
pub mod Parts
pub mod Reports
