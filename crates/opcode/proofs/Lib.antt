pub mod Every
pub mod Numbers
pub mod Rules
pub mod Table
