pub mod Adapters
pub mod Options
