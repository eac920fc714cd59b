pub mod Undo
pub mod Entry
pub mod Past
pub mod PastSeen
pub mod Board
pub mod Piled
pub mod Sides
