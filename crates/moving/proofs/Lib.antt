pub mod CopyLaws
pub mod LiveLaws
pub mod MoveLaws
