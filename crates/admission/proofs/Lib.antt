pub mod Arguments
pub mod ActualTerms
pub mod KnownAt
pub mod Numbered
pub mod Counted
pub mod LoneDefinitions
pub mod Cliques
