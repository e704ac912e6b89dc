pub mod Order
pub mod Words
pub mod Kinds
pub mod Names
pub mod Operators
pub mod Members
