pub mod Images
pub mod Keeping
pub mod Steps
pub mod Variables
pub mod Walks
