pub mod Numbers
pub mod Rates
pub mod Store
pub mod ExportRun
