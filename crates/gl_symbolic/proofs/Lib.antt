pub mod Cells
pub mod Environments
pub mod Nil
pub mod Stopped
pub mod Running
pub mod Narrowing
pub mod Parameters
pub mod Begun
