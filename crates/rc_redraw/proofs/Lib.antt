mod FillSteps
mod FaceSteps
mod OtherSteps
mod Anew
mod Blends
mod MarkSteps
mod Laying
pub mod NoneKnown
