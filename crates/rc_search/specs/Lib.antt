pub mod Shuffling
pub mod Rival
pub mod Looking
pub mod Pruning
pub mod Rounds
pub mod Sides
pub mod Keeping
pub mod Chosen
