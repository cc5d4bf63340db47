pub mod Signs
pub mod PlaceLaws
pub mod Thirds
pub mod Answers
pub mod Carry
pub mod Sums
