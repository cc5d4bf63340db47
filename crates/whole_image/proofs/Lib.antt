pub mod ImageLaws
pub mod WholeLaws
