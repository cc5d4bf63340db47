pub mod RecordLaws
pub mod RecordLists
pub mod RecordSteps
pub mod RecordWalk
pub mod FigureLaws
pub mod AppendLaws
