pub mod Crc32
pub mod Table
