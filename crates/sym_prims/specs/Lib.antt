pub mod Applying
pub mod Faults
pub mod Frames
pub mod Keys
pub mod Memos
pub mod Puts
pub mod Results
pub mod Seeing
