pub mod Kind
pub mod Part
pub mod Layout
pub mod Soundness
pub mod Ready
pub mod Contract
