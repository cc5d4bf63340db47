pub mod LogLaws
pub mod RateLaws
mod StoreLaws
pub mod ExportRunLaws
