pub mod NamedNumbers
pub mod Reading
pub mod Known
pub mod Mentions
pub mod Naming
