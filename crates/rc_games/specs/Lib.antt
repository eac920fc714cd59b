pub mod Alike
pub mod Fickle
