pub mod Names
pub mod Expressions
pub mod Effects
pub mod Items
pub mod Sheet
