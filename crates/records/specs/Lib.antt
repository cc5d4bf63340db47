pub mod View
pub mod Match
pub mod Figures
pub mod Records
