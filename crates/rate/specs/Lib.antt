pub mod Rate
pub mod Answer
