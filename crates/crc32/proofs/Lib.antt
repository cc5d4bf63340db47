pub mod Linear
pub mod Shares
pub mod ByTable
pub mod Rule
pub mod TableSteps
