pub mod Nodes
pub mod Pushes
pub mod Stores
pub mod Walks
