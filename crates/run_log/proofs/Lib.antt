pub mod Results
pub mod Entries
pub mod Reading
pub mod Writing
pub mod Inverse
pub mod Calls
