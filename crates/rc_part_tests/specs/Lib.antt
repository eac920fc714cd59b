pub mod Stated
