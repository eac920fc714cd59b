pub mod Bench
pub mod Trick
