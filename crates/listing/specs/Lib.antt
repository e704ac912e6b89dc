pub mod Read
pub mod Lines
pub mod Text
pub mod Places
pub mod Print
pub mod Printed
pub mod Kinds
