pub mod Purposes
pub mod Rows
pub mod Sequence
