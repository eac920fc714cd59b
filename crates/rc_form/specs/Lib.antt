pub mod Form
pub mod FormFault
pub mod Lexer
pub mod Read
pub mod Reader
pub mod SameForm
pub mod WordRef
