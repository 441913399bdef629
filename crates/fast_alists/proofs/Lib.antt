pub mod Agreeing
pub mod Covering
pub mod Keeping
pub mod Making
pub mod Pairs
pub mod Running
pub mod Values
