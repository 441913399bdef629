pub mod Hashes
pub mod Nodes
pub mod Inside
pub mod Walks
