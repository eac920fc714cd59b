-- Parts of a form in which no round finds a fault, and what follows for what is read of them.
pub mod Common
pub mod Names
pub mod Expressions
pub mod Effects
pub mod Items
pub mod Body
pub mod Counts
pub mod Sheet
pub mod Lines
pub mod Points
pub mod Cards
pub mod Teams
pub mod Decks
