pub mod Printing
pub mod Unplaced
pub mod Respelled
