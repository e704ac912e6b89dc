pub mod Case
pub mod Input
