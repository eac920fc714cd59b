-- Forms that are the same as others but for offsets.
pub mod Common
pub mod Expressions
pub mod Items
pub mod Setup
pub mod Sheet
pub mod Well
