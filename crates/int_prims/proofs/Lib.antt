pub mod Bounds
pub mod Powers
pub mod Widths
pub mod FarShifts
pub mod Digits
pub mod FarBits
