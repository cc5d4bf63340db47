pub mod KeyLaws
pub mod RecordLoop
pub mod BankLaws
pub mod FitLaws
pub mod ListingLaws
