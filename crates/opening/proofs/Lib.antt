pub mod LoadLaws
pub mod OpeningLaws
