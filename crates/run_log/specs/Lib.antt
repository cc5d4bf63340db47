pub mod Output
pub mod RunLog
