pub mod Least
pub mod Checked
pub mod Codes
pub mod Reads
pub mod UnreadLaws
