pub mod Nodes
pub mod Canonical
pub mod Inside
pub mod Plans
pub mod Hashes
pub mod Tests
