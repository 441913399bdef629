pub mod Arguments
pub mod WhatIsKnown
pub mod Parts
pub mod Callers
pub mod Signatures
pub mod Refused
pub mod Admitted
pub mod Numbers
