pub mod Replayed
pub mod Founds
pub mod Questions
pub mod Forms
