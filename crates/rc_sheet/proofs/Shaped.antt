-- Forms that stand for something have the shape of their place.
pub mod Common
pub mod Expressions
pub mod Effects
pub mod Items
pub mod Teams
pub mod Setup
pub mod Sheet
