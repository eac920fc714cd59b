-- Forms that stand for parts of well formed sheets have no fault of the second round.
pub mod Parts
pub mod Names
pub mod Rows
pub mod Expressions
pub mod Effects
pub mod Items
pub mod Whole
pub mod Faces
pub mod Lines
pub mod Given
pub mod Counts
pub mod Sheet
pub mod Stages
pub mod Owned
pub mod Maps
pub mod Teams
pub mod Members
