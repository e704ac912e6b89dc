pub mod FeedsLaws
pub mod GenlistLaws
pub mod FitsLaws
pub mod WholeLaws
