pub mod Edges
pub mod Keeps
pub mod Truth
