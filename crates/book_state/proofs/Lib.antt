pub mod Kept
pub mod Places
pub mod Noting
pub mod FirstStates
