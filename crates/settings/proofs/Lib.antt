pub mod Equal
pub mod StopLaws
pub mod RecordBytes
pub mod SideBySide
pub mod Written
