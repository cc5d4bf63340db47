pub mod EditLaws
pub mod LookupLaws
