-- A part of a form stands for one part of a sheet at most.
pub mod Rows
pub mod Names
pub mod Expressions
pub mod Effects
pub mod Items
pub mod Setup
pub mod Sheet
