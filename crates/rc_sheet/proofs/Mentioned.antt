-- What the parts of a sheet mention are the words that their forms mention.
pub mod Common
pub mod Rows
pub mod Forms
pub mod Setup
pub mod Sheet
pub mod Stages
pub mod Numbers
