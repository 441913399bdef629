pub mod Buckets
pub mod Finding
pub mod Linked
pub mod Longer
pub mod Tables
