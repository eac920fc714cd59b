-- What is read of a part that has no fault.
pub mod Names
pub mod Expressions
pub mod Effects
pub mod Items
pub mod Faces
pub mod Setup
pub mod Sheet
