mod FormLemmas
mod MapLemmas
mod PrintedNumbers
mod Copied
mod CopiedNames
pub mod CopiedExpressions
mod CopiedItems
mod CopiedSetup
pub mod CopiedSheet
mod Added
mod Rows
