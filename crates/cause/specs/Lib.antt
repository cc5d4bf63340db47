pub mod Cause
pub mod Named
