pub mod Judging
pub mod Proving
pub mod Runs
