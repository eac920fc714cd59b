pub mod Paths
pub mod Plain
pub mod State
