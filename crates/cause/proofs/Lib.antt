pub mod Order
pub mod Facts
pub mod NamedLaws
pub mod CauseLaws
