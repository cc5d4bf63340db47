pub mod LookupAnswer
pub mod Manner
