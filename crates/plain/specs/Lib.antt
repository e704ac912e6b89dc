pub mod Operators
pub mod Runs
pub mod Leaves
pub mod Siblings
