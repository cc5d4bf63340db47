pub mod PutLaws
pub mod TextLaws
