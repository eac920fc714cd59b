pub mod Below
mod Choices
mod Cuts
mod Exactly
mod FirstLines
mod Heads
mod MarkSteps
mod Parts
mod Words
