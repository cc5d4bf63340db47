pub mod Windows
pub mod Candidates
pub mod RingLaws
pub mod Entries
pub mod SlideLaws
pub mod Answers
