pub mod Book
pub mod Edit
pub mod Opening
pub mod Commit
pub mod Call
pub mod Tallied
