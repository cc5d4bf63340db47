pub mod Forms
pub mod Decoding
pub mod DecodeLoop
pub mod Numbers
