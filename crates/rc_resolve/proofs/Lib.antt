pub mod WordLemmas
pub mod SliceLemmas
pub mod LoopLemmas
pub mod BuildLemmas
pub mod GroupLemmas
pub mod PointLemmas
mod Firsts
mod Gathered
mod Groups
mod Lengths
mod Mentioned
pub mod Own
mod Steps
mod Stored
pub mod Whole
