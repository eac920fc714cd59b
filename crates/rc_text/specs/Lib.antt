pub mod BoundSeen
pub mod House
pub mod PickText
pub mod Finds
pub mod LineSeen
pub mod PlaceSeen
pub mod Gives
pub mod Choices
