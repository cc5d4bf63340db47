pub mod StateLaws
pub mod LoopLaws
