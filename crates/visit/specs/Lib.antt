pub mod Arms
pub mod Runs
pub mod Forms
