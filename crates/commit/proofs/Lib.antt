pub mod JudgeSteps
pub mod CommitLaws
pub mod MovingLaws
