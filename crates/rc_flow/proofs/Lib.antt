pub mod LeastLemmas
pub mod RowLemmas
pub mod FirstOffset
pub mod Unread
