-- What the setup of a form gives: attributes, values and maps.
pub mod Names
pub mod Faces
pub mod Setup
