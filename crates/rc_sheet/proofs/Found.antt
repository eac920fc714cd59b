-- What the second round finds in a setup.
pub mod Faces
pub mod Names
pub mod Setup
