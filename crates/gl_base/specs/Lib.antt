pub mod CallCount
pub mod Memory
pub mod NamedTexts
pub mod Outside
pub mod Status
